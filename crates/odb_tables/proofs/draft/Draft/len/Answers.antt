use Rattle.std.proofs.Common.{List, length, sym, ap, ◌∙◌}
use Rattle.odb_tables.specs.Database.{Db}
use Rattle.odb_tables.specs.Draft.{Draft}
use Rattle.odb_tables.specs.Represented.Draft.{grounds}
use Rattle.odb_tables.specs.Represented.Overlay.{Touched}
use Rattle.odb_tables.proofs.Grounds.{length-grounds}
use Rattle.odb_tables.proofs.Overlays.{length-all_overlaid}
use Rattle.odb_tables.proofs.draft.Draft.len.Goals as goal

pub returns-clause-old : goal.returns-clause-old
returns-clause-old c =
    c.len.ensures ∙ sym (length-grounds c.self.inside.base.now c.self.inside.under.now) ∙ ap (λ (d : Draft). length d.old) c.self.view_is

pub returns-clause-now : goal.returns-clause-now
returns-clause-now c =
    let db : Db = grounds c.self.inside.base.now c.self.inside.under.now in
    let os : List Touched = c.self.inside.overlays.items in
    c.len.ensures ∙ sym (length-grounds c.self.inside.base.now c.self.inside.under.now) ∙ sym (length-all_overlaid db os c.self.invariant.0) ∙ ap (λ (d : Draft). length d.now) c.self.view_is
