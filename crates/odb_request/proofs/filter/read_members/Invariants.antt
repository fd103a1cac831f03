use Rattle.std.proofs.Common.{◌≡◌, drop, map}
use Rattle.serde_json.specs.View.{items_view}
use Rattle.odb_atoms.specs.First.{each}
use Rattle.odb_cond.specs.Represented.Filter.{member_of}
use Rattle.odb_schema.specs.Json.{items_list}
use Rattle.odb_schema.proofs.Eachs.{after}
use Rattle.odb_request.specs.Requests.{read_member}
use Rattle.odb_request.proofs.filter.read_members.Given as goal

abbrev pub invariant-loop-item : goal.invariant-loop-item
invariant-loop-item l = each (read_member l.table.columns) (items_list (items_view l.items)) ≡ after (map member_of l.read.items) (each (read_member l.table.columns) (items_list (items_view (drop l.item-index l.items))))
