use Rattle.std.proofs.Common.{rules, ◌≡◌, ◌<◌, List, length, get_or, ap, ◌∙◌}
use Rattle.odb_atoms.specs.FinMap as finite
use Rattle.odb_atoms.specs.Uuid.{Uuid}
use Rattle.odb_tables.proofs.Installs.{get-here}
use Rattle.odb_tables.proofs.RowIndexes.{Sides}
use Rattle.odb_tables.proofs.row_index.cut.Goals as goal

pub loop-row-preserved : goal.loop-row-preserved
loop-row-preserved c tag v h stay =
    let es : List (Uuid × Sides) = c.rows-row-items.result.now in
    let i = c.loop-row.row-index in
    let e : Uuid × Sides = c.row-item.result in
    let low : i < length es = search rules in
    let at : e ≡ get_or es i e = search rules in
    let there = get-here es c.args.change.now i e c.rows-row-items.ensures.distinct c.rows-row-items.ensures.changes low at in
    c.cut_row.ensures tag v (c.loop-row.invariant tag v h stay) (λ here. stay e.1 (ap (finite.get c.args.change.now) here ∙ there))
