-- The references that a row has now and may not have had before: only columns whose value differs are looked at.
use Rattle.std.specs.Prelude.{ℕ, Bool, false, cond, not, ◌&&◌, ◌||◌, List, [], ◌∷◌, ◌++◌, filter, filter_map, flat_map, slice_get, unwrap_or, Option, option_and_then, option_map}
use Rattle.std.specs.List.{enumerate_from, list_any}
use Rattle.odb_atoms.specs.Atom.{Atom}
use Rattle.odb_atoms.specs.ColType.{ColType, is_single, value_base}
use Rattle.odb_atoms.specs.Difference.{difference}
use Rattle.odb_atoms.specs.FinSet as set
use Rattle.odb_atoms.specs.FinMap as map
use Rattle.odb_atoms.specs.Members.{has, value_at}
use Rattle.odb_atoms.specs.Row.{Row}
use Rattle.odb_atoms.specs.Value.{Value, is_atom, is_map, map_of, same_value, set_of}
use Rattle.odb_schema.specs.Schema.{Schema, columns_at}
use Rattle.odb_tables.specs.Database.{Db}
use Rattle.odb_integrity.specs.References.{is_strong}
use Rattle.odb_integrity.specs.Settlement.{RowId, is_stale, is_there, is_weak, referent, row_of, same_row, strong_of_row, strong_of_value, strong_target, weak_target}
use Rattle.odb_integrity.specs.Steps.{has_stale}

-- values of the type may make strong references
abbrev pub has_strong : ColType → Bool
has_strong t = is_strong t.key || is_strong (value_base t)

-- the value is a map that has the pair
abbrev pub has_pair_of : Value → Atom × Atom → Bool
has_pair_of v e = is_atom (value_at v e.0) e.1

-- the rows that a pair names, where the value has it
abbrev pub gained_of_pair : Option ℕ → Option ℕ → Value → Atom × Atom → List RowId
gained_of_pair k w now e = cond (has_pair_of now e) (filter_map (referent k) (e.0 ∷ []) ++ filter_map (referent w) (e.1 ∷ [])) []

-- of a difference that leads to a value: the rows that its elements or pairs name which the value has
abbrev pub strong_of_change : Schema → ColType → Value → Value → List RowId
strong_of_change s t (set_of d) now = filter (λ y. list_any (same_row y) (strong_of_value s t now)) (strong_of_value s t (set_of d))
strong_of_change s t (map_of d) now = flat_map (gained_of_pair (strong_target s t.key) (strong_target s (value_base t)) now) (map.entries_of d)

-- the rows to which the value `now` refers by what `before` hasn't
abbrev pub gained_by_value : Schema → ColType → Value → Value → List RowId
gained_by_value s t before now = cond (same_value before now) [] (strong_of_change s t (difference before now t) now)

-- the same where there may be no such values
abbrev pub gained_at : Schema → ColType → Option Value → Option Value → List RowId
gained_at s t before now = unwrap_or (option_map (λ n. unwrap_or (option_map (λ b. gained_by_value s t b n) before) (strong_of_value s t n)) now) []

abbrev pub gained_by_row : Schema → RowId → Row → Row → List RowId
gained_by_row s x before now = flat_map (λ e. gained_at s e.1.type (slice_get before.columns e.0) (slice_get now.columns e.0)) (enumerate_from 0 (columns_at s x.0))

-- the same of a row that may not have been there before
abbrev pub gained_since : Schema → RowId → Option Row → Row → List RowId
gained_since s x before now = unwrap_or (option_map (λ b. gained_by_row s x b now) before) (strong_of_row s x now)

-- the rows to which x refers in the database `now`, but for those to which it does in `before`
abbrev pub gained : Schema → Db → Db → RowId → List RowId
gained s before now x = unwrap_or (option_map (gained_since s x (row_of before x)) (row_of now x)) []

-- a row gained a strong reference to a row that isn't there
abbrev pub gains_missing : Schema → Db → Db → RowId → Bool
gains_missing s before now x = list_any (λ y. not (is_there now y)) (gained s before now x)

-- the row itself, where it did
abbrev pub gaining : Schema → Db → Db → RowId → List RowId
gaining s before now x = cond (gains_missing s before now x) (x ∷ []) []

-- of sets of any number of elements: what leads from one to the other leads back as well
abbrev pub leads_back : ColType → Value → Value → Bool
leads_back t before now = not (is_single t) && not (is_map before) && not (is_map now)

-- ---- weak references

-- values of the type may make weak references
abbrev pub has_weak : ColType → Bool
has_weak t = is_weak t.key || is_weak (value_base t)

-- of a difference that leads to a value: an element or a pair which the value has is stale
abbrev pub has_stale_change : Schema → Db → ColType → Value → Value → Bool
has_stale_change s db t (set_of d) now = list_any (λ a. is_stale db (weak_target s t.key) a && has now a) (set.items d)
has_stale_change s db t (map_of d) now = list_any (λ e. (is_stale db (weak_target s t.key) e.0 || is_stale db (weak_target s (value_base t)) e.1) && has_pair_of now e) (map.entries_of d)

-- the value, another one than before, has a stale reference in what it gained
abbrev pub value_gains_stale : Schema → Db → ColType → Value → Value → Bool
value_gains_stale s db t before now = not (same_value before now) && has_stale_change s db t (difference before now t) now

-- the same where there may be no such values
abbrev pub gains_stale_at : Schema → Db → ColType → Option Value → Option Value → Bool
gains_stale_at s db t before now = has_weak t && unwrap_or (option_map (λ n. unwrap_or (option_map (λ b. value_gains_stale s db t b n) before) (has_stale s db t n)) now) false

-- what a row has in a column
abbrev pub cell_of : Db → RowId → ℕ → Option Value
cell_of db x i = option_and_then (λ r. slice_get r.columns i) (row_of db x)

-- a row gained a weak reference to a row that isn't there
abbrev pub gains_stale : Schema → Db → Db → RowId → Bool
gains_stale s before now x = list_any (λ e. gains_stale_at s now e.1.type (cell_of before x e.0) (cell_of now x e.0)) (enumerate_from 0 (columns_at s x.0))
