use Rattle.std.proofs.Common.{rules, ◌≡◌, false, sym, ap, subst, ◌∙◌}
use Rattle.odb_tables.specs.Draft.{Draft, KeepsColumn}
use Rattle.odb_tables.specs.Represented.ChangedColumns.{may_change_at}
use Rattle.odb_tables.proofs.KeptColumns.{is_off}
use Rattle.odb_tables.proofs.draft.Draft.keeps.Goals as goal

pub returns : goal.returns
returns c off =
    let k = c.args.table in
    let p = c.args.place in
    let place : c.place.result ≡ k = search rules in
    let unmarked : may_change_at c.self.inside.changed.items k p ≡ false = (λ i. may_change_at (sym c.as_slice.ensures.value i) (sym place i) p) ∙ sym c.may_change_at.ensures ∙ is_off c.may_change_at.result off in
    subst (λ (d : Draft). KeepsColumn d.old d.now k p) c.self.view_is (c.self.invariant.1.1 k p unmarked)
