-- What the text of rows says.
use Rattle.std.specs.Prelude.{map as map_list}
use Rattle.odb_cond.specs.Represented.Clause.{selector_of}
use Rattle.odb_ops.specs.Execution.{distinct, rows_result, selected}
use Rattle.odb_ops.specs.declared.meaning.SelectedRows.{SelectedRows}
use Rattle.odb_schema.specs.Json.{Data}
use Rattle.odb_tables.specs.Database.{table_at}
use Rattle.odb_tables.specs.Matching.{matching}

abbrev pub rows_of : SelectedRows → Data
rows_of r =
    rows_result r.declared.now (map_list selector_of r.asked.now.columns.items)
    (distinct (selected (map_list selector_of r.asked.now.columns.items) (matching r.asked.now.conditions (table_at r.draft.now.now r.table))))
