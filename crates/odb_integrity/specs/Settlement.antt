-- Settlement at the end of a transaction: garbage collection, references and constraints (RFC 7047, clause 3). [P 5]
use Rattle.std.specs.Prelude.{◌≡◌, ◌⊎◌, ℕ, Bool, true, false, cond, not, ◌&&◌, ◌||◌, ◌==◌, List, [], ◌∷◌, ◌++◌, map as map_list, flat_map, filter_map, zip, nat_lt, nat_le, is_some, unwrap_or, Option, Some, None, option_and_then, option_map, sum_by}
use Rattle.std.specs.List.{list_any, list_all, enumerate_from}
use Rattle.odb_atoms.specs.FinMap as map
use Rattle.odb_atoms.specs.FinSet as set
use Rattle.odb_atoms.specs.Atom.{Atom, uuid}
use Rattle.odb_atoms.specs.ColType.{Base, ColType, at_most, value_base}
use Rattle.odb_atoms.specs.Error.{Error, constraint_violation, referential_integrity_violation, resources_exhausted}
use Rattle.odb_atoms.specs.First.{Ok, Result, demand, ◌>>◌}
use Rattle.odb_atoms.specs.Row.{Row, cell, declared}
use Rattle.odb_atoms.specs.Uuid.{Uuid, same_uuid, zero_uuid}
use Rattle.odb_atoms.specs.Value.{Value, map_of, same_values, set_of, size}
use Rattle.odb_schema.specs.Schema.{Column, Schema, TableSchema, column_place, columns_at, is_root_at, table_place}
use Rattle.odb_tables.specs.Database.{Db, Table, table_at}

-- a row by its table's place and its UUID
abbrev pub RowId : Type 0
RowId = ℕ × Uuid

abbrev pub same_row : RowId → RowId → Bool
same_row x y = (x.0 == y.0) && same_uuid x.1 y.1

abbrev pub row_of : Db → RowId → Option Row
row_of db x = map.get (table_at db x.0) x.1

abbrev pub is_there : Db → RowId → Bool
is_there db x = is_some (row_of db x)

-- the row is there, and p holds of it
abbrev pub at_row : (RowId → Row → Bool) → Db → RowId → Bool
at_row p db x = unwrap_or (option_map (p x) (row_of db x)) false

-- the row ids of a database
abbrev pub row_ids : Db → List RowId
row_ids db = flat_map (λ e. map_list (λ u. (e.0, u)) (map.keys e.1)) (enumerate_from 0 db)

-- ---- references

-- the table that atoms of this base type refer to
abbrev pub target : Schema → Base → Option ℕ
target s b = option_and_then (λ r. table_place s r.table) b.reference

abbrev pub is_weak : Base → Bool
is_weak b = unwrap_or (option_map (λ r. r.weak) b.reference) false

-- the table to which they have strong references, and weak ones
abbrev pub strong_target : Schema → Base → Option ℕ
strong_target s b = cond (is_weak b) None (target s b)

abbrev pub weak_target : Schema → Base → Option ℕ
weak_target s b = cond (is_weak b) (target s b) None

-- the row of the table that an atom names
abbrev pub referent : Option ℕ → Atom → Option RowId
referent t (uuid u) = option_map (λ k. (k, u)) t
referent t a = None

-- the rows to which a value of this type has strong references
abbrev pub strong_of_value : Schema → ColType → Value → List RowId
strong_of_value s t (set_of v) = filter_map (referent (strong_target s t.key)) (set.items v)
strong_of_value s t (map_of m) = filter_map (referent (strong_target s t.key)) (map.keys m) ++ filter_map (referent (strong_target s (value_base t))) (map.values m)

-- the columns of a row with their values
abbrev pub typed_cells : Schema → RowId → Row → List (Column × Value)
typed_cells s x r = zip (columns_at s x.0) r.columns

abbrev pub strong_of_row : Schema → RowId → Row → List RowId
strong_of_row s x r = flat_map (λ e. strong_of_value s e.0.type e.1) (typed_cells s x r)

-- x has a strong reference to y
abbrev pub refers : Schema → Db → RowId → RowId → Bool
refers s db x y = at_row (λ x r. list_any (same_row y) (strong_of_row s x r)) db x

-- ---- what is kept

-- another row of the list has a strong reference to x
abbrev pub is_referred : Schema → Db → List RowId → RowId → Bool
is_referred s db xs x = list_any (λ y. not (same_row x y) && refers s db y x) xs

-- a set of rows each of which is of a root table or is strongly referenced by another row of the set
abbrev pub has_support : Schema → Db → List RowId → RowId → Bool
has_support s db xs x = is_root_at s x.0 || is_referred s db xs x

abbrev pub is_supported : Schema → Db → List RowId → Bool
is_supported s db xs = list_all (has_support s db xs) xs

-- all the sets of some members of a list
abbrev pub subsets : List RowId → List (List RowId)
subsets [] = [] ∷ []
subsets (x ∷ xs) = map_list (λ ys. x ∷ ys) (subsets xs) ++ subsets xs

-- the row is in a supported set of rows
unfoldable pub is_kept : Schema → Db → RowId → Bool
is_kept s db x = list_any (λ xs. is_supported s db xs && list_any (same_row x) xs) (subsets (row_ids db))

-- The set is of rows, each of a root table or strongly referenced by another row of the set. `is_kept` is the largest such set.
abbrev pub IsSupported : Schema → Db → (RowId → Bool) → Type 0
IsSupported s db p =
    (x : RowId) → p x ≡ true
    → (list_any (same_row x) (row_ids db) ≡ true)
    × ((is_root_at s x.0 ≡ true) ⊎ ((y : RowId) × (p y ≡ true) × (same_row x y ≡ false) × (refers s db y x ≡ true)))

-- f of the rows of each table
abbrev pub each_row : (RowId → Row → Option Row) → Db → Db
each_row f db = map_list (λ e. map.map_entries (λ u r. f (e.0, u) r) e.1) (enumerate_from 0 db)

abbrev pub kept : Schema → Db → Db
kept s db = each_row (λ x r. cond (is_kept s db x) (Some r) None) db

-- ---- the other steps

abbrev pub any_row : (RowId → Row → Bool) → Db → Bool
any_row p db = list_any (λ e. list_any (λ f. p (e.0, f.0) f.1) (map.entries_of e.1)) (enumerate_from 0 db)

-- a strong reference to a row that isn't there
abbrev pub dangles : Schema → Db → RowId → Row → Bool
dangles s db x r = list_any (λ y. not (is_there db y)) (strong_of_row s x r)

abbrev pub has_dangling : Schema → Db → Bool
has_dangling s db = any_row (dangles s db) db

-- the atom names a row of the table that isn't there
abbrev pub is_stale : Db → Option ℕ → Atom → Bool
is_stale db t a = unwrap_or (option_map (λ x. not (is_there db x)) (referent t a)) false

-- without weak references to rows that aren't there; a pair whose key or value is one goes out whole
abbrev pub pruned_value : Schema → Db → ColType → Value → Value
pruned_value s db t (set_of v) = set_of (set.retain v (λ a. not (is_stale db (weak_target s t.key) a)))
pruned_value s db t (map_of m) = map_of (map.map_entries (λ k v. cond (is_stale db (weak_target s t.key) k || is_stale db (weak_target s (value_base t)) v) None (Some v)) m)

abbrev pub pruned_row : Schema → Db → RowId → Row → Row
pruned_row s db x r = record r { columns = map_list (λ e. pruned_value s db e.0.type e.1) (typed_cells s x r) }

abbrev pub pruned : Schema → Db → Db
pruned s db = each_row (λ x r. Some (pruned_row s db x r)) db

-- a column with fewer elements than its `min`
abbrev pub is_short : Column × Value → Bool
is_short e = nat_lt (size e.1) e.0.type.min

abbrev pub has_too_few : Schema → RowId → Row → Bool
has_too_few s x r = list_any is_short (typed_cells s x r)

-- not more rows than `maxRows`
abbrev pub within_max_rows : TableSchema × Table → Bool
within_max_rows e = at_most nat_le e.0.max_rows (map.len e.1)

-- the rows of a table
abbrev pub rows_of : Table → List Row
rows_of table = map.values table

-- what a row has in the columns of an index
abbrev pub index_cells : List Column → List (List ℕ) → Row → List Value
index_cells cs index r = map_list (λ i. cell zero_uuid r (declared i)) (filter_map (column_place cs) index)

-- one stands twice
abbrev pub has_twins : {A : Type 0} → (A → A → Bool) → List A → Bool
has_twins same [] = false
has_twins same (x ∷ xs) = list_any (same x) xs || has_twins same xs

-- two rows have the same in all columns of an index
abbrev pub has_duplicates : TableSchema × Table → Bool
has_duplicates e = list_any (λ index. has_twins same_values (map_list (index_cells e.0.columns index) (rows_of e.1))) e.0.indexes

abbrev pub row_count : Db → ℕ
row_count db = sum_by map.len db

-- the database, or the first constraint that it breaks: numbers of elements, of a table's rows, indexes, and the number of all rows
abbrev pub constrained : Schema → ℕ → Db → Result Db Error
constrained s max_rows db = do
  demand (not (any_row (has_too_few s) db)) constraint_violation
  demand (list_all within_max_rows (zip s.tables db)) constraint_violation
  demand (not (list_any has_duplicates (zip s.tables db))) constraint_violation
  demand (nat_le (row_count db) max_rows) resources_exhausted
  Ok db

-- The settled database, or the first fault: rows that nothing keeps go out, strong references lead to rows, weak ones that don't are taken out, and then the constraints are tested.
unfoldable pub settle : Schema → ℕ → Db → Result Db Error
settle s max_rows db =
    let rest : Db = kept s db in
    do
      demand (not (has_dangling s rest)) referential_integrity_violation
      constrained s max_rows (pruned s rest)
