-- Databases as settlement leaves them.
use Rattle.std.specs.Prelude.{◌≡◌, true, false, zip}
use Rattle.std.specs.List.{list_any, list_all}
use Rattle.odb_integrity.specs.References.{has_type, is_mixed}
use Rattle.odb_integrity.specs.Settlement.{RowId, any_row, has_dangling, has_duplicates, has_too_few, is_kept, is_there, within_max_rows}
use Rattle.odb_integrity.specs.Steps.{row_has_stale}
use Rattle.odb_schema.specs.Schema.{Schema}
use Rattle.odb_tables.specs.Database.{Db}

-- Steps 1 to 6 of a settlement find nothing in the database as it is. But the first, garbage collection, may, where the schema has a mixed column: pruning a pair of it can leave a row that nothing keeps. Step 7 is about a limit that isn't the schema's.
--     kept        where no column is mixed, each row is kept
--     joined      no strong reference leads to a row that isn't there
--     fresh       no weak reference does
--     filled      no column has fewer elements than its `min`
--     bounded     no table has more rows than its `maxRows`
--     apart       no two rows have the same in all columns of an index
pub record IsSettled (s : Schema) (db : Db) : Type 0 where
  pub kept : has_type is_mixed s ≡ false → (x : RowId) → is_there db x ≡ true → is_kept s db x ≡ true
  pub joined : has_dangling s db ≡ false
  pub fresh : any_row (row_has_stale s db) db ≡ false
  pub filled : any_row (has_too_few s) db ≡ false
  pub bounded : list_all within_max_rows (zip s.tables db) ≡ true
  pub apart : list_any has_duplicates (zip s.tables db) ≡ false
