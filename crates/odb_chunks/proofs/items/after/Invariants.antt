use Rattle.std.proofs.Common.{length, ◌≡◌, ◌++◌, drop}
use Rattle.odb_chunks.specs.Represented.Chunks.{items_in, AreFilled}
use Rattle.odb_chunks.proofs.items.after.Given as goal

abbrev pub invariant-loop-front_left : goal.invariant-loop-front_left
invariant-loop-front_left g l =
    (drop l.left (l.front_left ++ items_in l.later_left) ≡ drop l.fn.count (l.fn.front ++ items_in l.fn.later)) × AreFilled l.later_left

abbrev pub decreases-loop-front_left : goal.decreases-loop-front_left
decreases-loop-front_left g l = length l.later_left
