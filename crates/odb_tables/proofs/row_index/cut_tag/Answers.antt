use Rattle.std.proofs.Common.{rules, ◌≡◌, ◌<◌, List, length, get_or, ap, ◌∙◌}
use Rattle.odb_atoms.specs.FinMap as finite
use Rattle.odb_atoms.specs.Uuid.{Uuid}
use Rattle.odb_tables.proofs.Installs.{get-here}
use Rattle.odb_tables.proofs.RowIndexes.{Sides}
use Rattle.odb_tables.proofs.row_index.cut_tag.Goals as goal

pub returns : goal.returns
returns c tag v h stay =
    let es : List (Uuid × Sides) = c.rows-rows.result.now in
    let i = c.args.place in
    let e : Uuid × Sides = c.index-rows-place.result in
    let low : i < length es = search rules in
    let at : e ≡ get_or es i e = search rules in
    let there = get-here es c.args.change.now i e c.rows-rows.ensures.distinct c.rows-rows.ensures.changes low at in
    c.cut_tag_of.ensures tag v h (λ here. stay e.1 (ap (finite.get c.args.change.now) here ∙ there))
