use Rattle.std.proofs.Common.{List, length, sym, ap, ◌∙◌}
use Rattle.std.proofs.lemmas.Result.{on_ok_weaker}
use Rattle.odb_tables.specs.Change.{all_changed_by}
use Rattle.odb_tables.specs.Database.{Db}
use Rattle.odb_tables.specs.Pending.{Pending}
use Rattle.odb_tables.specs.Represented.Overlay.{Touched}
use Rattle.odb_tables.proofs.Overlays.{length-all_overlaid}
use Rattle.odb_tables.proofs.pending.Pending.add.Goals as goal

pub put_changes-requires : goal.put_changes-requires
put_changes-requires c =
    let db : Db = c.self.inside.base.now in
    let os : List Touched = c.self.inside.overlays.items in
    ap length c.tables.ensures ∙ c.requires.0 ∙ ap (λ (p : Pending). length p.now) (sym c.self.view_is) ∙ length-all_overlaid db os c.self.invariant ∙ sym c.self.invariant

pub returns-clause-ok : goal.returns-clause-ok
returns-clause-ok c =
    let db : Db = c.self.inside.base.now in
    let os : List Touched = c.self.inside.overlays.items in
    on_ok_weaker c.put_changes.result
    (λ h. h db c.self.invariant ∙ (λ i. all_changed_by ((c.self.view_is i).now) (c.tables.ensures i)))
    c.put_changes.ensures.ok
