-- The parts of the reading of values that the code reads in functions of their own.
-- Of an array it reads what stands in front of the first fault, and only then whether an entry stands twice.
use Rattle.std.specs.Prelude.{ℕ, ⊤, Bool, List, [], ◌∷◌, ◌++◌, Option, Some, None}
use Rattle.std.specs.List.{list_all, list_any}
use Rattle.odb_atoms.specs.Atom.{Atom, Kind, zero_atom}
use Rattle.odb_atoms.specs.Error.{Error, resources_exhausted, syntax_error}
use Rattle.odb_atoms.specs.First.{Err, Ok, Result, demand, ok_or, ◌>>=◌, ◌>>◌}
use Rattle.odb_atoms.specs.Text.{same_text}
use Rattle.odb_atoms.specs.Value.{Atoms, Pairs, Value, map_of, set_of, within_limit}
use Rattle.odb_atoms.specs.Uuid.{Uuid, uuid_of_text}
use Rattle.odb_schema.specs.Json.{Data, Items, Members, item, members_list, no_items, string}
use Rattle.odb_schema.specs.Notation.{Names, named_uuid, pair_of, read_atom}

-- ---- identifiers

-- the identifier that stands after "uuid", and after "named-uuid"
abbrev pub uuid_content : Data → Result Uuid Error
uuid_content (string s) = ok_or (uuid_of_text s) syntax_error
uuid_content d = Err syntax_error

abbrev pub name_content : Option Names → Data → Result Uuid Error
name_content names (string s) = named_uuid names s
name_content names d = Err syntax_error

-- ---- arrays

-- the entries, and the fault after them if there is one
abbrev pub Front : Type 0 → Type 0
Front A = List A × Option Error

module _ {A : Type 0} where
  -- what follows, unless there was a fault already
  abbrev pub followed : List A → Option Error → Front A → Front A
  followed xs None rest = (xs ++ rest.0, rest.1)
  followed xs (Some e) rest = (xs, Some e)

  abbrev pub front : (Data → Front A) → Items → Front A
  front f no_items = ([], None)
  front f (item d ds) = followed (f d).0 (f d).1 (front f ds)

-- an atom, or its fault
abbrev pub atom_or_fault : Result Atom Error → Front Atom
atom_or_fault (Ok a) = (a ∷ [], None)
atom_or_fault (Err e) = ([], Some e)

abbrev pub atom_front : Option Names → Kind → Data → Front Atom
atom_front names k d = atom_or_fault (read_atom names k d)

abbrev pub elements_front : Option Names → Kind → Items → Front Atom
elements_front names k = front (atom_front names k)

-- the key's pair: with the value's fault too, since that the key stands twice is the earlier fault
abbrev pub pair_with : Atom → Kind → Result Atom Error → Front (Atom × Atom)
pair_with key l (Ok v) = ((key, v) ∷ [], None)
pair_with key l (Err e) = ((key, zero_atom l) ∷ [], Some e)

abbrev pub pair_or_fault : Kind → Result Atom Error → Result Atom Error → Front (Atom × Atom)
pair_or_fault l (Ok key) value = pair_with key l value
pair_or_fault l (Err e) value = ([], Some e)

abbrev pub two_of : Option Names → Kind → Kind → Option (Data × Data) → Front (Atom × Atom)
two_of names k l None = ([], Some syntax_error)
two_of names k l (Some p) = pair_or_fault l (read_atom names k p.0) (read_atom names l p.1)

abbrev pub pair_front : Option Names → Kind → Kind → Data → Front (Atom × Atom)
pair_front names k l d = two_of names k l (pair_of d)

abbrev pub pairs_front : Option Names → Kind → Kind → Items → Front (Atom × Atom)
pairs_front names k l = front (pair_front names k l)

-- ---- the values that sets and maps are

abbrev pub set_value : Result Atoms Error → Result Value Error
set_value r = do
  s ← r
  Ok (set_of s)

abbrev pub map_value : Result Pairs Error → Result Value Error
map_value r = do
  m ← r
  Ok (map_of m)

-- the value, within the limit
abbrev pub in_limit : Value → Result Value Error
in_limit v = do
  demand (within_limit v) resources_exhausted
  Ok v

-- ---- the members of objects

-- each member is among these
abbrev pub are_known : List (List ℕ) → Members → Bool
are_known names ms = list_all (λ m. list_any (same_text m.0) names) (members_list ms)

-- no member beside these
abbrev pub no_other : List (List ℕ) → Members → Result ⊤ Error
no_other names ms = demand (are_known names ms) syntax_error
