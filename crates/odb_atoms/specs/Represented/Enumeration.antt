-- What an enumeration of the code stands for: the atoms of the set that it keeps.
use Rattle.std.specs.Prelude.{◌≡◌, false}
use Rattle.odb_atoms.specs.FinSet as set
use Rattle.odb_atoms.specs.Value.{Atoms, Value, is_map, map_of, set_of}
use Rattle.odb_atoms.specs.declared.column_type.Enumeration.TheInside.{Inside}

-- the elements of a set
abbrev pub atoms_in : Value → Atoms
atoms_in (set_of s) = s
atoms_in (map_of m) = set.empty

abbrev pub atoms_of : Inside → Atoms
atoms_of a = atoms_in a.atoms

abbrev pub IsSet : Inside → Type 0
IsSet a = is_map a.atoms ≡ false
