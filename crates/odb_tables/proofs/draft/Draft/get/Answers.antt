use Rattle.std.proofs.Common.{rules, ◌≡◌, List, Some, None, option_copied, sym, ap, ◌∙◌}
use Rattle.odb_atoms.specs.FinMap as finite
use Rattle.odb_atoms.specs.Represented.Atom.{uuid_of}
use Rattle.odb_tables.specs.Database.{Db, table_at}
use Rattle.odb_atoms.specs.FinSet as set
use Rattle.odb_tables.specs.Draft.{Draft, removed_at}
use Rattle.odb_tables.specs.Represented.Draft.{grounds, laid, touched_at}
use Rattle.odb_tables.specs.Represented.Overlay.{Touched}
use Rattle.odb_tables.proofs.Overlays.{at-all_overlaid, get-overlaid, there_if, there_not_removed}
use Rattle.odb_tables.proofs.draft.Draft.get.Goals as goal

pub returns-in-Some-clause-row : goal.returns-in-Some-clause-row
returns-in-Some-clause-row c =
    let db : Db = grounds c.self.inside.base.now c.self.inside.under.now in
    let os : List Touched = c.self.inside.overlays.items in
    let k = c.args.table in
    let u = uuid_of c.args.uuid in
    let got : Some (option_copied c.in-Some.row) ≡ finite.get (touched_at os k) u = search rules in
    ap (laid (finite.get (table_at db k) u)) got ∙ sym (get-overlaid (table_at db k) (touched_at os k) u) ∙ ap (λ t. finite.get t u) (sym (at-all_overlaid db os k c.self.invariant.0)) ∙ ap (λ (d : Draft). finite.get (table_at d.now k) u) c.self.view_is

pub returns-in-Some-clause-not_removed : goal.returns-in-Some-clause-not_removed
returns-in-Some-clause-not_removed c =
    there_if _ c.in-Some.row (finite.get (table_at c.args.self.now.now c.args.table) (uuid_of c.args.uuid)) (returns-in-Some-clause-row c)
    (λ x there. ap (λ (d : Draft). set.contains (removed_at d c.args.table) (uuid_of c.args.uuid)) (sym c.self.view_is) ∙ there_not_removed (grounds c.self.inside.base.now c.self.inside.under.now) c.self.inside.overlays.items c.args.table (uuid_of c.args.uuid) x c.self.invariant.0 (ap (λ (d : Draft). finite.get (table_at d.now c.args.table) (uuid_of c.args.uuid)) c.self.view_is ∙ there))

pub returns-in-None-clause-row : goal.returns-in-None-clause-row
returns-in-None-clause-row c =
    let db : Db = grounds c.self.inside.base.now c.self.inside.under.now in
    let os : List Touched = c.self.inside.overlays.items in
    let k = c.args.table in
    let u = uuid_of c.args.uuid in
    let got : None ≡ finite.get (touched_at os k) u = search rules in
    let same : finite.get (table_at c.args.self.now.old k) u ≡ finite.get (table_at c.args.self.now.now k) u =
    ap (λ (d : Draft). finite.get (table_at d.old k) u) (sym c.self.view_is) ∙ ap (laid (finite.get (table_at db k) u)) got ∙ sym (get-overlaid (table_at db k) (touched_at os k) u) ∙ ap (λ t. finite.get t u) (sym (at-all_overlaid db os k c.self.invariant.0)) ∙ ap (λ (d : Draft). finite.get (table_at d.now k) u) c.self.view_is in
    search rules

pub returns-in-None-clause-not_removed : goal.returns-in-None-clause-not_removed
returns-in-None-clause-not_removed c =
    there_if _ _ (finite.get (table_at c.args.self.now.now c.args.table) (uuid_of c.args.uuid)) (returns-in-None-clause-row c)
    (λ x there. ap (λ (d : Draft). set.contains (removed_at d c.args.table) (uuid_of c.args.uuid)) (sym c.self.view_is) ∙ there_not_removed (grounds c.self.inside.base.now c.self.inside.under.now) c.self.inside.overlays.items c.args.table (uuid_of c.args.uuid) x c.self.invariant.0 (ap (λ (d : Draft). finite.get (table_at d.now c.args.table) (uuid_of c.args.uuid)) c.self.view_is ∙ there))
