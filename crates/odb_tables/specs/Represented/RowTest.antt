-- What tests of rows compare.
use Rattle.std.specs.Prelude.{ℕ, Bool, ◌||◌}
use Rattle.odb_atoms.specs.Atom.{Atom, same_atom}
use Rattle.odb_atoms.specs.Row.{Row, cell, declared}
use Rattle.odb_atoms.specs.Uuid.{zero_uuid}
use Rattle.odb_atoms.specs.Value.{same_value}

-- the atom is the key or the value of the pair
abbrev pub is_in : Atom → Atom × Atom → Bool
is_in a e = same_atom e.0 a || same_atom e.1 a

-- the rows have the same in the column at the place
abbrev pub have_same_at : Row → Row → ℕ → Bool
have_same_at r s i = same_value (cell zero_uuid r (declared i)) (cell zero_uuid s (declared i))
