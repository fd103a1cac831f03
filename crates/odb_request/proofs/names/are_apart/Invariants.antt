use Rattle.std.proofs.Common.{◌≡◌, length}
use Rattle.odb_request.specs.Represented.Parts.{are_apart}
use Rattle.odb_request.proofs.names.are_apart.Given as goal

abbrev pub invariant-loop-left : goal.invariant-loop-left
invariant-loop-left l = are_apart l.table.columns l.columns ≡ are_apart l.table.columns l.left

abbrev pub decreases-loop-left : goal.decreases-loop-left
decreases-loop-left l = length l.left
