use Rattle.std.proofs.Common.{◌≡◌, length}
use Rattle.std.specs.Cmp.Lexicographic.{slice_cmp}
use Rattle.odb_chunks.proofs.items.Items.compare.Given as goal

abbrev pub invariant-loop-x : goal.invariant-loop-x
invariant-loop-x g l =
    slice_cmp g.T.Ord.cmp l.left l.right ≡ slice_cmp g.T.Ord.cmp l.fn.self l.fn.other

abbrev pub decreases-loop-x : goal.decreases-loop-x
decreases-loop-x g l = length l.left
