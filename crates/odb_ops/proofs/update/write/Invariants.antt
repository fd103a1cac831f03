use Rattle.std.proofs.Common.{◌≡◌, drop}
use Rattle.odb_ops.specs.Execution.{replaced}
use Rattle.odb_ops.proofs.update.write.Given as goal

abbrev pub invariant-loop-place : goal.invariant-loop-place
invariant-loop-place l = l.row ≡ replaced (drop l.place l.given) l.fn.row
