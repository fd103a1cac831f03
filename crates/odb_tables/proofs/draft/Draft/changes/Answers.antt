use Rattle.std.proofs.Common.{◌≡◌, List, length, sym, ap, subst, ◌∙◌}
use Rattle.std.proofs.lemmas.Result.{IfOk-weaker}
use Rattle.odb_tables.specs.Change.{all_changed_by, change_between}
use Rattle.odb_tables.specs.Database.{Db}
use Rattle.odb_tables.specs.Draft.{Draft}
use Rattle.odb_tables.specs.Installing.{IsChangeOf}
use Rattle.odb_tables.specs.Represented.Draft.{all_overlaid, grounds}
use Rattle.odb_tables.specs.Represented.Overlay.{Touched}
use Rattle.odb_tables.proofs.Changes.{change-of, leads-to}
use Rattle.odb_tables.proofs.Grounds.{length-grounds}
use Rattle.odb_tables.proofs.Overlays.{length-all_overlaid}
use Rattle.odb_tables.proofs.draft.Draft.changes.Goals as goal

pub all_changes-requires : goal.all_changes-requires
all_changes-requires c = ap length c.as_slice.ensures.value ∙ c.self.invariant.0 ∙ length-grounds c.self.inside.base.now c.self.inside.under.now

pub returns-clause-changes : goal.returns-clause-changes
returns-clause-changes c =
    let db : Db = grounds c.self.inside.base.now c.self.inside.under.now in
    IfOk-weaker c.all_changes.result _ _ (λ changes is. is ∙ ap (λ (os : List Touched). change_between db (all_overlaid db os)) c.as_slice.ensures.value ∙ ap (λ (d : Draft). change_between d.old d.now) c.self.view_is) c.all_changes.ensures

pub returns-clause-change_of : goal.returns-clause-change_of
returns-clause-change_of c =
    let db : Db = grounds c.self.inside.base.now c.self.inside.under.now in
    let os : List Touched = c.self.inside.overlays.items in
    let long : length c.args.self.now ≡ length c.args.self.old = ap (λ (d : Draft). length d.now) (sym c.self.view_is) ∙ length-all_overlaid db os c.self.invariant.0 ∙ ap (λ (d : Draft). length d.old) c.self.view_is in
    IfOk-weaker c.all_changes.result _ _ (λ changes is. subst (IsChangeOf c.args.self.old) (sym is) (change-of c.args.self.old c.args.self.now long)) (returns-clause-changes c)

pub returns-clause-leads_to : goal.returns-clause-leads_to
returns-clause-leads_to c =
    let db : Db = grounds c.self.inside.base.now c.self.inside.under.now in
    let os : List Touched = c.self.inside.overlays.items in
    let long : length c.args.self.now ≡ length c.args.self.old = ap (λ (d : Draft). length d.now) (sym c.self.view_is) ∙ length-all_overlaid db os c.self.invariant.0 ∙ ap (λ (d : Draft). length d.old) c.self.view_is in
    IfOk-weaker c.all_changes.result _ _ (λ changes is. ap (all_changed_by c.args.self.old) is ∙ leads-to c.args.self.old c.args.self.now long) (returns-clause-changes c)
