use Rattle.std.proofs.Common.{rules, ◌≡◌, ◌<◌, ◌≤◌, List, length, slice_index_or, sym, ap, ◌∙◌}
use Rattle.odb_atoms.specs.FinMap as finite
use Rattle.odb_tables.specs.Database.{Db, table_at}
use Rattle.odb_tables.specs.Draft.{Draft}
use Rattle.odb_tables.specs.Represented.Draft.{grounds}
use Rattle.odb_tables.specs.Represented.Overlay.{Touched}
use Rattle.odb_tables.proofs.Overlays.{same_untouched, touched-is, untouched-past}
use Rattle.odb_tables.proofs.draft.Draft.is_untouched.Goals as goal

pub returns-in-Some : goal.returns-in-Some
returns-in-Some c empty =
    let db : Db = grounds c.self.inside.base.now c.self.inside.under.now in
    let os : List Touched = c.self.inside.overlays.items in
    let o : Touched = c.in-Some.overlay.now in
    let k = c.args.table in
    let inside : k < length os = search rules in
    let at : o ≡ slice_index_or os k o = search rules in
    let none : o ≡ finite.empty = c.is_empty.ensures empty in
    ap (λ (d : Draft). table_at d.now k) (sym c.self.view_is) ∙ same_untouched db os k c.self.invariant.0 (sym (touched-is os k o inside at) ∙ none) ∙ ap (λ (d : Draft). table_at d.old k) c.self.view_is

pub returns-in-None : goal.returns-in-None
returns-in-None c _ =
    let db : Db = grounds c.self.inside.base.now c.self.inside.under.now in
    let os : List Touched = c.self.inside.overlays.items in
    let k = c.args.table in
    let past : length os ≤ k = search rules in
    ap (λ (d : Draft). table_at d.now k) (sym c.self.view_is) ∙ same_untouched db os k c.self.invariant.0 (untouched-past os k past) ∙ ap (λ (d : Draft). table_at d.old k) c.self.view_is
