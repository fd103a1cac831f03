use Rattle.std.proofs.Common.{◌≡◌, List, [], length, sym, ap, subst, ◌∙◌}
use Rattle.std.proofs.lemmas.Result.{IfOk-weaker}
use Rattle.odb_tables.specs.Change.{all_changed_by, change_between}
use Rattle.odb_tables.specs.Database.{Db}
use Rattle.odb_tables.specs.Pending.{Pending}
use Rattle.odb_tables.specs.Installing.{IsChangeOf}
use Rattle.odb_tables.specs.Represented.Draft.{all_overlaid, grounds}
use Rattle.odb_tables.specs.Represented.Overlay.{Touched}
use Rattle.odb_tables.proofs.Changes.{change-of, leads-to}
use Rattle.odb_tables.proofs.Grounds.{grounds-none}
use Rattle.odb_tables.proofs.Overlays.{length-all_overlaid}
use Rattle.odb_tables.proofs.pending.Pending.changes.Goals as goal

pub all_changes-requires : goal.all_changes-requires
all_changes-requires c = ap length c.as_slice.ensures.value ∙ c.self.invariant

pub returns-clause-changes : goal.returns-clause-changes
returns-clause-changes c =
    let db : Db = c.self.inside.base.now in
    let whole : grounds db [] ≡ db = grounds-none db in
    IfOk-weaker c.all_changes.result _ _ (λ changes is. is ∙ (λ i. let old = whole i in change_between old (all_overlaid old (c.as_slice.ensures.value i))) ∙ ap (λ (d : Pending). change_between d.old d.now) c.self.view_is) c.all_changes.ensures

pub returns-clause-change_of : goal.returns-clause-change_of
returns-clause-change_of c =
    let db : Db = c.self.inside.base.now in
    let os : List Touched = c.self.inside.overlays.items in
    let long : length c.args.self.now ≡ length c.args.self.old = ap (λ (d : Pending). length d.now) (sym c.self.view_is) ∙ length-all_overlaid db os c.self.invariant ∙ ap (λ (d : Pending). length d.old) c.self.view_is in
    IfOk-weaker c.all_changes.result _ _ (λ changes is. subst (IsChangeOf c.args.self.old) (sym is) (change-of c.args.self.old c.args.self.now long)) (returns-clause-changes c)

pub returns-clause-leads_to : goal.returns-clause-leads_to
returns-clause-leads_to c =
    let db : Db = c.self.inside.base.now in
    let os : List Touched = c.self.inside.overlays.items in
    let long : length c.args.self.now ≡ length c.args.self.old = ap (λ (d : Pending). length d.now) (sym c.self.view_is) ∙ length-all_overlaid db os c.self.invariant ∙ ap (λ (d : Pending). length d.old) c.self.view_is in
    IfOk-weaker c.all_changes.result _ _ (λ changes is. ap (all_changed_by c.args.self.old) is ∙ leads-to c.args.self.old c.args.self.now long) (returns-clause-changes c)
