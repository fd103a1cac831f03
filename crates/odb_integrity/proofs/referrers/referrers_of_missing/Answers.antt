use Rattle.std.proofs.Common.{rules, ap, ◌∙◌}
use Rattle.std.specs.List.{list_any}
use Rattle.std.proofs.lemmas.List.{take_all}
use Rattle.std.proofs.lemmas.Result.{IfOk-weaker}
use Rattle.odb_integrity.specs.Represented.Reference.{mentions_gone}
use Rattle.odb_integrity.specs.Settlement.{same_row}
use Rattle.odb_integrity.proofs.Sets.{any-keys}
use Rattle.odb_integrity.proofs.referrers.referrers_of_missing.Goals as goal

pub returns : goal.returns
returns c =
    let rows = c.args.rows.now in
    let now = c.args.draft.now.now in
    IfOk-weaker c.in_order.result _ _ (λ all is x.
    ap (list_any (same_row x)) is ∙ any-keys c.loop-row.all x ∙ c.loop-row.invariant x
    ∙ ap (list_any (mentions_gone c.args.references.now now x)) (take_all c.loop-row.row-index rows (search rules))) c.in_order.ensures
