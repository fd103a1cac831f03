-- What a filter is looked up by, and which changes of a table concern it. [P 9.1, 9.4]
use Rattle.std.specs.Prelude.{ℕ, Bool, true, false, ◌||◌, ◌==◌, if◌then◌else◌, nat_lt, List, [], ◌∷◌, Option, Some, None, unwrap_or, slice_get}
use Rattle.std.specs.List.{filter_map, list_any}
use Rattle.odb_atoms.specs.FinMap as map
use Rattle.odb_atoms.specs.FinSet as set
use Rattle.odb_atoms.specs.Atom.{Atom}
use Rattle.odb_atoms.specs.Members.{has}
use Rattle.odb_atoms.specs.Row.{Row, Selector, cell}
use Rattle.odb_atoms.specs.Uuid.{Uuid}
use Rattle.odb_atoms.specs.Value.{Value, map_of, set_of}
use Rattle.odb_cond.specs.Condition.{Function, equal, includes}
use Rattle.odb_cond.specs.Filter.{Filter, Member, always, when}
use Rattle.odb_tables.specs.Change.{Changes}

-- any row of the table, or the rows that have the atom in the column, of a map as a key
pub data Key : Type 0 where
  any_row : Key
  named : Selector → Atom → Key

abbrev pub atoms_in : Value → List Atom
atoms_in (set_of s) = set.items s
atoms_in (map_of m) = map.keys m

abbrev pub first_in : List Atom → Option Atom
first_in [] = None
first_in (a ∷ more) = Some a

-- an atom that a column has to have: the first of the value that it has to be or to include
abbrev pub needed : Function → Value → Option Atom
needed equal v = first_in (atoms_in v)
needed includes v = first_in (atoms_in v)
needed f v = None

abbrev pub key_at : Selector → Option Atom → Key
key_at c None = any_row
key_at c (Some a) = named c a

-- `false` selects no row
abbrev pub key_of : Member → Option Key
key_of (always false) = None
key_of (always true) = Some any_row
key_of (when c) = Some (key_at c.column (needed c.function c.value))

-- a filter without members selects every row
abbrev pub keys_of : Filter → List Key
keys_of [] = any_row ∷ []
keys_of (m ∷ ms) = filter_map key_of (m ∷ ms)

abbrev pub row_has : Selector → Atom → Uuid → Option Row → Bool
row_has c a u None = false
row_has c a u (Some r) = has (cell u r c) a

-- the change of a table has a row of the key, as it was or as it is
abbrev pub is_met : Changes → Key → Bool
is_met d any_row = nat_lt 0 (map.len d)
is_met d (named c a) = list_any (λ e. row_has c a e.0 e.1.0 || row_has c a e.0 e.1.1) (map.entries_of d)

-- the change of its table concerns the filter
abbrev pub is_hit : Changes → Filter → Bool
is_hit d f = list_any (is_met d) (keys_of f)

-- a filter of the table at a place
abbrev pub Asked : Type 0
Asked = ℕ × Filter

abbrev pub change_at : List Changes → ℕ → Changes
change_at cs t = unwrap_or (slice_get cs t) map.empty

-- the change of a database concerns one of the filters
abbrev pub is_touched : List Changes → List Asked → Bool
is_touched cs fs = list_any (λ a. is_hit (change_at cs a.0) a.1) fs

-- what each session asks
abbrev pub Interests : Type 0
Interests = List (ℕ × List Asked)

abbrev pub asked_at : Interests → ℕ → List Asked
asked_at [] s = []
asked_at (e ∷ es) s = if e.0 == s then e.1 else asked_at es s
