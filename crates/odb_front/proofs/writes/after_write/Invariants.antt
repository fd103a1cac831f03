use Rattle.std.proofs.Common.{◌≡◌, map, length}
use Rattle.serde_json.specs.View.{view}
use Rattle.odb_front.specs.Writes.{after_write}
use Rattle.odb_front.proofs.writes.after_write.Given as goal

-- what is left has the same count
abbrev pub invariant-loop-left : goal.invariant-loop-left
invariant-loop-left l = after_write (map view l.left) ≡ after_write (map view l.fn.operations)

abbrev pub decreases-loop-left : goal.decreases-loop-left
decreases-loop-left l = length l.left
