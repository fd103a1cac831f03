use Rattle.std.proofs.Common.{rules, ◌≡◌, true, sym, ◌∙◌}
use Rattle.odb_integrity.specs.Settlement.{at_row, has_too_few}
use Rattle.odb_integrity.proofs.Touched.{no_row, one_row}
use Rattle.odb_integrity.proofs.constraints.has_too_few.Goals as goal

pub returns-then-is_short : goal.returns-then-is_short
returns-then-is_short c =
    let holds : at_row (has_too_few c.args.schema.now) c.args.draft.now.now c.row-item.result ≡ true = sym c.is_short.ensures ∙ c.if-is_short.true in
    one_row (has_too_few c.args.schema.now) c.args.draft.now.now c.row-item.result holds

pub returns : goal.returns
returns c = no_row (has_too_few c.args.schema.now) c.args.draft.now.now c.args.rows.now c.requires c.loop-row.row-index (search rules) c.loop-row.invariant
