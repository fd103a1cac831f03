use Rattle.std.proofs.Common.{◌≡◌, length}
use Rattle.odb_front.specs.Answers.{beside}
use Rattle.odb_front.proofs.answers.beside.Given as goal

-- in what is left the same is found
abbrev pub invariant-loop-left : goal.invariant-loop-left
invariant-loop-left l = beside l.fn.name l.left ≡ beside l.fn.name l.fn.schemas

abbrev pub decreases-loop-left : goal.decreases-loop-left
decreases-loop-left l = length l.left
