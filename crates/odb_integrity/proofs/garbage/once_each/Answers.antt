use Rattle.std.proofs.Common.{rules, ◌≡◌, ◌<◌, false, length, slice_index_or, true, ap, ◌∙◌}
use Rattle.std.specs.BTreeSet.{Updates}
use Rattle.std.specs.List.{list_any}
use Rattle.std.proofs.lemmas.List.{take_all}
use Rattle.std.proofs.lemmas.Result.{IfOk-weaker}
use Rattle.odb_integrity.specs.Represented.RowId.{row_id_cmp}
use Rattle.odb_integrity.specs.Settlement.{same_row}
use Rattle.odb_integrity.proofs.Sets.{any-keys, grown, inserted}
use Rattle.odb_integrity.proofs.garbage.once_each.Goals as goal

pub loop-row-preserved : goal.loop-row-preserved
loop-row-preserved c =
    let rows = c.args.rows.now in
    let i = c.loop-row.row-index in
    let y = c.row-item.result in
    let inside : i < length rows = search rules in
    let is : y ≡ slice_index_or rows i y = search rules in
    let added : Updates row_id_cmp c.loop-row.set c.insert.new.self y true = search rules in
    grown same_row (λ _. false) c.loop-row.set c.insert.new.self rows i y inside is c.loop-row.invariant (inserted c.loop-row.set c.insert.new.self y added)

pub returns : goal.returns
returns c =
    IfOk-weaker c.in_order.result _ _ (λ each is x.
    ap (list_any (same_row x)) is ∙ any-keys c.loop-row.set x ∙ c.loop-row.invariant x
    ∙ ap (list_any (same_row x)) (take_all c.loop-row.row-index c.args.rows.now (search rules))) c.in_order.ensures
