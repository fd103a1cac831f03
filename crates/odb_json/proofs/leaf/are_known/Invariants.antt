use Rattle.std.proofs.Common.{◌≡◌, map}
use Rattle.serde_json.specs.View.{members_view}
use Rattle.odb_json.specs.Represented.Parts.{are_known}
use Rattle.odb_json.proofs.leaf.are_known.Given as goal

abbrev pub invariant-loop-name : goal.invariant-loop-name
invariant-loop-name l = are_known (map (λ name. name.now) l.known) (members_view l.members.entries) ≡ are_known (map (λ name. name.now) l.known) (members_view l.name-iterator)
