use Rattle.std.proofs.Common.{◌≡◌}
use Rattle.odb_ops.specs.Execution as model
use Rattle.odb_ops.proofs.insert.set_all.Given as goal

abbrev pub invariant-loop-column : goal.invariant-loop-column
invariant-loop-column l = model.replaced l.given.items l.row ≡ model.replaced l.fn.given.items l.fn.row

abbrev pub decreases-loop-column : goal.decreases-loop-column
decreases-loop-column l = goal.left-loop-column l
