use Rattle.std.proofs.Common.{◌≡◌, drop, map}
use Rattle.serde_json.specs.View.{items_view}
use Rattle.odb_atoms.specs.First.{each}
use Rattle.odb_schema.specs.Json.{items_list}
use Rattle.odb_schema.proofs.Eachs.{after}
use Rattle.odb_json.specs.Operation.{read_expected}
use Rattle.odb_json.specs.Represented.Row.{cells_of}
use Rattle.odb_json.proofs.row.read_all.Given as goal

abbrev pub invariant-loop-item : goal.invariant-loop-item
invariant-loop-item l = each (read_expected l.names l.table.columns) (items_list (items_view l.items)) ≡ after (map cells_of l.rows.items) (each (read_expected l.names l.table.columns) (items_list (items_view (drop l.item-index l.items))))
