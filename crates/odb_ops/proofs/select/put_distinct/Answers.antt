use Rattle.std.proofs.Common.{List, map, subst, sym, take}
use Rattle.odb_atoms.specs.Row.{Selector}
use Rattle.odb_atoms.specs.Value.{Value}
use Rattle.odb_cond.specs.Represented.Clause.{selector_of}
use Rattle.odb_ops.specs.Represented.Cells.{IsLentSetOf}
use Rattle.odb_ops.specs.Represented.Layout.{content, row_tokens}
use Rattle.odb_ops.proofs.Loops.{mapped_more}
use Rattle.odb_ops.proofs.Prints.{IsPrinted, first_more}
use Rattle.odb_ops.proofs.select.put_distinct.Goals as goal

pub loop-row-preserved : goal.loop-row-preserved
loop-row-preserved c =
    let l = c.args.layout.now in
    let columns : List Selector = map selector_of l.columns.now in
    let f = row_tokens l.declared.now columns in
    let i = c.loop-row.row-index in
    let rows : List (List Value) = map (content columns) (take i c.args.rows.now) in
    let both = c.in_ok-put_first.ensures rows c.loop-row.invariant.0 in
    let out = c.put_first.new.out in
    subst (λ (rs : List (List Value)). IsLentSetOf c.put_first.new.seen rs × IsPrinted f c.args.out.now out rs)
    (sym (mapped_more (content columns) c.args.rows.now i c.row-item.result c.loop-row-test.true c.row-item.is))
    (both.0, first_more f rows (content columns c.row-item.result) c.args.out.now c.loop-row.out out c.loop-row.invariant.1 both.1)
