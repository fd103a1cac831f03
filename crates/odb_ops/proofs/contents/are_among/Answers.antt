use Rattle.std.proofs.Common.{sym, ap, ◌∙◌}
use Rattle.std.specs.List.{list_any}
use Rattle.odb_atoms.specs.Value.{same_values}
use Rattle.odb_ops.proofs.RowSets.{is_among, is_apart}
use Rattle.odb_ops.proofs.contents.are_among.Goals as goal

pub returns-then-not-contains : goal.returns-then-not-contains
returns-then-not-contains c = λ others h.
    let apart = ap (λ r. list_any (same_values r) others) (sym c.values.ensures) ∙ sym (h c.values.result.now) ∙ sym c.contains.ensures ∙ c.if-not-contains.true in
    is_apart c.args.rows.now others c.loop-row.row-index c.row-item.result c.loop-row-test.true c.row-item.is (c.loop-row.invariant others h) apart

pub loop-row-preserved : goal.loop-row-preserved
loop-row-preserved c = λ others h.
    let among = ap (λ r. list_any (same_values r) others) (sym c.values.ensures) ∙ sym (h c.values.result.now) ∙ sym c.contains.ensures ∙ c.if-not-contains.false in
    is_among c.args.rows.now others c.loop-row.row-index c.row-item.result c.loop-row-test.true c.row-item.is (c.loop-row.invariant others h) among
