use Rattle.odb_monitor.specs.Represented.Layout.{row_tokens}
use Rattle.odb_monitor.specs.Represented.Line.{line_in}
use Rattle.odb_print.proofs.Loops.{printed_more}
use Rattle.odb_monitor.proofs.layout.Layout.put_rows.Goals as goal

pub loop-line-preserved : goal.loop-line-preserved
loop-line-preserved c =
    let l = c.args.self.now in
    printed_more (row_tokens l) (line_in l.columns) c.args.lines.now c.loop-line.line-index c.line-item.result c.args.out.now c.loop-line.out c.put_row.new.out c.loop-line-test.true c.line-item.is c.loop-line.invariant c.in_ok-put_row.ensures
