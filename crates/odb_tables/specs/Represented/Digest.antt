-- By what number rows are found that have certain values in some columns: what a hasher makes of the values.
use Rattle.std.specs.Prelude.{List, [], ◌∷◌, fold}
use Rattle.std.specs.Hash.{HashWrites, bool, i64, str, u128}
use Rattle.std.specs.Hash.DefaultHasher as sip
use Rattle.std.specs.RandomState.{initial_hasher}
use Rattle.std.specs.declared.hash.DefaultHasher.{DefaultHasher}
use Rattle.std.specs.declared.hash.RandomState.{RandomState}
use Rattle.odb_atoms.specs.Atom.{Atom, boolean, integer, text, uuid}
use Rattle.odb_atoms.specs.FinMap as map
use Rattle.odb_atoms.specs.FinSet as set
use Rattle.odb_atoms.specs.Uuid.{Uuid, uuid_from}
use Rattle.odb_atoms.specs.Value.{Value, map_of, set_of}

abbrev pub writes : Atom → HashWrites
writes (integer z) = i64 z
writes (boolean b) = bool b
writes (text s) = str s
writes (uuid u) = u128 u.number

-- the hasher after an atom
abbrev pub after_atom : DefaultHasher → Atom → DefaultHasher
after_atom h a = fold sip.write h (writes a)

abbrev pub after_atoms : DefaultHasher → List Atom → DefaultHasher
after_atoms h [] = h
after_atoms h (a ∷ rest) = after_atoms (after_atom h a) rest

abbrev pub after_pairs : DefaultHasher → List (Atom × Atom) → DefaultHasher
after_pairs h [] = h
after_pairs h (e ∷ es) = after_pairs (after_atom (after_atom h e.0) e.1) es

abbrev pub after_value : DefaultHasher → Value → DefaultHasher
after_value h (set_of s) = after_atoms h (set.items s)
after_value h (map_of m) = after_pairs h (map.entries_of m)

abbrev pub after_values : DefaultHasher → List Value → DefaultHasher
after_values h [] = h
after_values h (v ∷ vs) = after_values (after_value h v) vs

-- the number as an identifier, as which it is a tag
unfoldable pub digest : RandomState → List Value → Uuid
digest keys vs = uuid_from (sip.finish (after_values (initial_hasher keys) vs))
