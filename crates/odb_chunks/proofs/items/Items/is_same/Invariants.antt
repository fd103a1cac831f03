use Rattle.std.proofs.Common.{◌≡◌, length}
use Rattle.std.specs.Cmp.Lexicographic.{pointwise}
use Rattle.odb_chunks.proofs.items.Items.is_same.Given as goal

abbrev pub invariant-loop-left : goal.invariant-loop-left
invariant-loop-left g l =
    pointwise g.T.PartialEq.eq l.left l.right ≡ pointwise g.T.PartialEq.eq l.fn.self l.fn.other

abbrev pub decreases-loop-left : goal.decreases-loop-left
decreases-loop-left g l = length l.left
