use Rattle.std.proofs.Common.{◌≡◌, map}
use Rattle.serde_json.specs.View.{members_view}
use Rattle.odb_atoms.specs.First.{each}
use Rattle.odb_schema.proofs.Eachs.{after}
use Rattle.odb_schema.specs.Json.{members_list}
use Rattle.odb_request.specs.Represented.Change.{change_of}
use Rattle.odb_request.specs.Requests.{read_change}
use Rattle.odb_request.proofs.read.read_all_changes.Given as goal

abbrev pub invariant-loop-name : goal.invariant-loop-name
invariant-loop-name l = each (read_change l.schema) (members_list (members_view l.members.entries)) ≡ after (map (change_of l.schema) l.changes.items) (each (read_change l.schema) (members_list (members_view l.name-iterator)))
