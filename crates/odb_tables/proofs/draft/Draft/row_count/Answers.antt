use Rattle.std.proofs.Common.{rules, ◌≡◌, ◌<◌, ◌≤◌, List, length, slice_index_or, sym, ap, ◌∙◌, arith}
use Rattle.odb_atoms.specs.FinMap as finite
use Rattle.odb_tables.specs.Database.{Db, table_at}
use Rattle.odb_tables.specs.Draft.{Draft}
use Rattle.odb_tables.specs.Represented.Draft.{grounds, overlaid}
use Rattle.odb_tables.specs.Represented.Overlay.{Touched}
use Rattle.odb_tables.proofs.Grounds.{length-grounds}
use Rattle.odb_tables.proofs.Overlays.{at-all_overlaid, len-empty, nothing-past, touched-is}
use Rattle.odb_tables.proofs.draft.Draft.row_count.Goals as goal

pub returns-in_default : goal.returns-in_default
returns-in_default c =
    let db : Db = grounds c.self.inside.base.now c.self.inside.under.now in
    let os : List Touched = c.self.inside.overlays.items in
    let k = c.args.table in
    let long : length os ≡ length db = c.self.invariant.0 in
    let past : length os ≤ k = search rules in
    sym (len-empty _ (nothing-past db os k long (omega (arith, long, past)))) ∙ ap (λ (d : Draft). finite.len (table_at d.now k)) c.self.view_is

pub at-ground-requires : goal.at-ground-requires
at-ground-requires c =
    let inside : c.args.table < length c.self.inside.overlays.items = search rules in
    omega (arith, inside, c.self.invariant.0, length-grounds c.self.inside.base.now c.self.inside.under.now)

pub returns : goal.returns
returns c =
    let db : Db = grounds c.self.inside.base.now c.self.inside.under.now in
    let os : List Touched = c.self.inside.overlays.items in
    let k = c.args.table in
    let o : Touched = c.in-Some.overlay.now in
    let inside : k < length os = search rules in
    let over : o ≡ slice_index_or os k o = search rules in
    let table : c.at-ground.result ≡ table_at db k = search rules in
    let whole : overlaid c.at-ground.result o ≡ table_at c.args.self.now.now k = (λ i. overlaid (table i) (touched-is os k o inside over i)) ∙ sym (at-all_overlaid db os k c.self.invariant.0) ∙ ap (λ (d : Draft). table_at d.now k) c.self.view_is in
    c.count.ensures.rows ∙ ap finite.len whole
