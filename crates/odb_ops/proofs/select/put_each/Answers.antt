use Rattle.std.proofs.Common.{rules, ◌≡◌, ◌++◌, List, map}
use Rattle.odb_atoms.specs.Row.{Selector}
use Rattle.odb_cond.specs.Represented.Clause.{selector_of}
use Rattle.odb_ops.specs.Represented.Layout.{entry_tokens}
use Rattle.odb_print.proofs.Loops.{printed_more}
use Rattle.odb_tables.specs.Represented.Table.{listed}
use Rattle.odb_ops.proofs.select.put_each.Goals as goal

pub loop-row-preserved : goal.loop-row-preserved
loop-row-preserved c =
    let l = c.args.layout.now in
    let columns : List Selector = map selector_of l.columns.now in
    let more : c.put_row.new.out ≡ c.loop-row.out ++ entry_tokens l.declared.now columns (listed c.row-item.result) = search rules in
    printed_more (entry_tokens l.declared.now columns) listed c.args.rows.now c.loop-row.row-index c.row-item.result c.args.out.now c.loop-row.out c.put_row.new.out
    c.loop-row-test.true c.row-item.is c.loop-row.invariant more
