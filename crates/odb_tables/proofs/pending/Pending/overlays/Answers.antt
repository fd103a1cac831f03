use Rattle.std.proofs.Common.{List, ap, sym, ◌∙◌}
use Rattle.odb_tables.specs.Database.{Db}
use Rattle.odb_tables.specs.Pending.{Pending}
use Rattle.odb_tables.specs.Represented.Draft.{grounds}
use Rattle.odb_tables.specs.Represented.Overlay.{Touched}
use Rattle.odb_tables.proofs.Grounds.{grounds-all}
use Rattle.odb_tables.proofs.pending.Pending.overlays.Goals as goal

pub returns : goal.returns
returns c =
    let db : Db = c.self.inside.base.now in
    let os : List Touched = c.self.inside.overlays.items in
    ap (λ (p : Pending). grounds p.old c.as_slice.result.now) (sym c.self.view_is) ∙ ap (grounds db) c.as_slice.ensures.value ∙ grounds-all db os c.self.invariant ∙ ap (λ (p : Pending). p.now) c.self.view_is
