use Rattle.std.proofs.Common.{subst, sym, take}
use Rattle.odb_ops.specs.Represented.Cells.{IsSetOf}
use Rattle.odb_ops.proofs.Loops.{one_more}
use Rattle.odb_ops.proofs.contents.contents.Goals as goal

pub loop-row-preserved : goal.loop-row-preserved
loop-row-preserved c =
    subst (IsSetOf c.is_new.new.seen) (sym (one_more c.args.rows.now c.loop-row.row-index c.row-item.result c.loop-row-test.true c.row-item.is))
    (c.in_ok-is_new.ensures (take c.loop-row.row-index c.args.rows.now) c.loop-row.invariant).1
