use Rattle.std.proofs.Common.{map}
use Rattle.odb_monitor.specs.Represented.Line.{line_in}
use Rattle.odb_monitor.specs.Represented.Sides.{line_at, sides_in}
use Rattle.odb_monitor.proofs.Loops.{kept_more}
use Rattle.odb_monitor.proofs.part.lines_of.Goals as goal

pub loop-row-preserved : goal.loop-row-preserved
loop-row-preserved c =
    let k = c.args.comparison.now in
    let f = line_in k.request.now.shape.columns in
    kept_more (line_at k.first k.told k.request.now) sides_in c.args.sides.now c.loop-row.row-index c.row-item.result (map f c.loop-row.lines.items) (map f c.add_line.new.lines.items) c.loop-row-test.true c.row-item.is c.loop-row.invariant c.in_ok-add_line.ensures
