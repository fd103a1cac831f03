use Rattle.std.proofs.Common.{◌≡◌, length, map}
use Rattle.odb_request.specs.Represented.Parts.{are_tables_apart}
use Rattle.odb_request.specs.Requests.{are_distinct}
use Rattle.odb_request.proofs.names.are_tables_apart.Given as goal

abbrev pub invariant-loop-left : goal.invariant-loop-left
invariant-loop-left l = are_distinct (map (λ q. q.shape.name) l.requests) ≡ are_tables_apart l.left

abbrev pub decreases-loop-left : goal.decreases-loop-left
decreases-loop-left l = length l.left
