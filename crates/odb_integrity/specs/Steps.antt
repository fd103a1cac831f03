-- What the steps of a settlement make of a database.
use Rattle.std.specs.Prelude.{Bool, cond, ◌||◌, List, Option, Some, None, fold, option_and_then, slice_set}
use Rattle.std.specs.List.{list_any}
use Rattle.odb_atoms.specs.ColType.{ColType, value_base}
use Rattle.odb_atoms.specs.FinMap as map
use Rattle.odb_atoms.specs.FinSet as set
use Rattle.odb_atoms.specs.Row.{Row}
use Rattle.odb_atoms.specs.Value.{Value, map_of, set_of}
use Rattle.odb_schema.specs.Schema.{Schema}
use Rattle.odb_tables.specs.Database.{Db, table_at}
use Rattle.odb_integrity.specs.Settlement.{RowId, each_row, is_stale, pruned_row, row_of, same_row, typed_cells, weak_target}

-- the rows of the list are taken out
abbrev pub without_rows : List RowId → Db → Db
without_rows xs db = each_row (λ x r. cond (list_any (same_row x) xs) None (Some r)) db

-- rows are put in, one after another
abbrev pub with_row : Db → RowId × Row → Db
with_row db c = slice_set db c.0.0 (map.insert (table_at db c.0.0) c.0.1 c.1)

abbrev pub with_rows : List (RowId × Row) → Db → Db
with_rows cs db = fold with_row db cs

-- a weak reference to a row that isn't there
abbrev pub has_stale : Schema → Db → ColType → Value → Bool
has_stale s db t (set_of v) = list_any (is_stale db (weak_target s t.key)) (set.items v)
has_stale s db t (map_of m) = list_any (λ e. is_stale db (weak_target s t.key) e.0 || is_stale db (weak_target s (value_base t)) e.1) (map.entries_of m)

abbrev pub row_has_stale : Schema → Db → RowId → Row → Bool
row_has_stale s db x r = list_any (λ e. has_stale s db e.0.type e.1) (typed_cells s x r)

-- the row as it is pruned, if that changes it
abbrev pub pruning : Schema → Db → RowId → Option (RowId × Row)
pruning s db x = option_and_then (λ r. cond (row_has_stale s db x r) (Some (x, pruned_row s db x r)) None) (row_of db x)
