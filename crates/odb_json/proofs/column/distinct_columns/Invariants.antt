use Rattle.std.proofs.Common.{◌≡◌, [], drop, map}
use Rattle.serde_json.specs.View.{items_view}
use Rattle.odb_schema.specs.Json.{items_list}
use Rattle.odb_schema.proofs.Eachs.{after, turned}
use Rattle.odb_cond.specs.Represented.Clause.{selector_of}
use Rattle.odb_json.specs.Operation.{distinct_columns}
use Rattle.odb_json.proofs.column.distinct_columns.Given as goal

abbrev pub invariant-loop-item : goal.invariant-loop-item
invariant-loop-item l = distinct_columns l.table.columns [] (items_list (items_view l.items)) ≡ after (map selector_of l.columns.items) (distinct_columns l.table.columns (turned [] (map selector_of l.columns.items)) (items_list (items_view (drop l.item-index l.items))))
