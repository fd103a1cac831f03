use Rattle.std.proofs.Common.{◌≡◌, ◌≤◌, drop, length, map}
use Rattle.odb_request.specs.Represented.Parts.{monitored_as}
use Rattle.odb_request.specs.Requests.{in_order}
use Rattle.odb_request.proofs.columns.in_order.Given as goal

abbrev pub invariant-loop-place : goal.invariant-loop-place
invariant-loop-place l = (l.place ≤ length l.columns) × (map (monitored_as l.table.columns) l.sorted.items ≡ in_order (map (monitored_as l.table.columns) (drop l.place l.columns)))

abbrev pub decreases-loop-place : goal.decreases-loop-place
decreases-loop-place l = l.place
