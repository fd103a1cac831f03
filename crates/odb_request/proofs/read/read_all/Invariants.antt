use Rattle.std.proofs.Common.{◌≡◌}
use Rattle.std.specs.Arc.{arc_value}
use Rattle.serde_json.specs.View.{members_view}
use Rattle.odb_atoms.specs.First.{each}
use Rattle.odb_schema.proofs.Eachs.{after}
use Rattle.odb_schema.specs.Json.{members_list}
use Rattle.odb_request.specs.Represented.Notation.{notation_of}
use Rattle.odb_request.specs.Requests.{read_request}
use Rattle.odb_request.proofs.read.read_all.Given as goal

abbrev pub invariant-loop-name : goal.invariant-loop-name
invariant-loop-name l = each (read_request (arc_value l.schema) (notation_of l.notation)) (members_list (members_view l.members.entries)) ≡ after l.requests.items (each (read_request (arc_value l.schema) (notation_of l.notation)) (members_list (members_view l.name-iterator)))
