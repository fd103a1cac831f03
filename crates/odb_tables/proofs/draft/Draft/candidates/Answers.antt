use Rattle.std.proofs.Common.{rules, ◌≡◌, Some, None, IfSome, slice_get, subst}
use Rattle.odb_atoms.specs.Uuid.{Uuid}
use Rattle.std.specs.Prelude.{List}
use Rattle.odb_tables.specs.Database.{Db, table_at}
use Rattle.odb_tables.specs.Draft.{Draft}
use Rattle.odb_tables.specs.Represented.Draft.{ground}
use Rattle.odb_tables.specs.Represented.RowIndex.{Suffices}
use Rattle.odb_tables.specs.Represented.Overlay.{Touched}
use Rattle.odb_tables.proofs.Grounds.{grounds-Suffices}
use Rattle.odb_tables.proofs.draft.Draft.candidates.Goals as goal

pub returns-in_ok-candidates_over-in-Some-overlay_at : goal.returns-in_ok-candidates_over-in-Some-overlay_at
returns-in_ok-candidates_over-in-Some-overlay_at g c =
    let p = g.T.Test.passes c.args.test.now in
    let db : Db = c.self.inside.base.now in
    let os : List Touched = c.self.inside.under.now in
    let k = c.args.table in
    let keys : List Uuid = c.in-Some.keys.items in
    let new : List Uuid = (c.in_ok-candidates_over-in-Some-overlay_at).field-0.items in
    let here : Suffices keys p (table_at db k) = subst (λ o. IfSome o (λ ks. Suffices ks.items p (table_at db k))) c.in-Some.is c.in_ok-keys.ensures in
    let over : Some c.in-Some-overlay_at.under.now ≡ slice_get os k = search rules in
    subst (λ (d : Draft). Suffices new p (table_at d.old k)) c.self.view_is
    (grounds-Suffices p db os k new (subst (λ o. Suffices new p (ground (table_at db k) o)) over ((c.in_ok-candidates_over-in-Some-overlay_at).ensures p (table_at db k) here)))

pub returns-in-None : goal.returns-in-None
returns-in-None g c =
    let p = g.T.Test.passes c.args.test.now in
    let db : Db = c.self.inside.base.now in
    let os : List Touched = c.self.inside.under.now in
    let k = c.args.table in
    let keys : List Uuid = c.in-Some.keys.items in
    let here : Suffices keys p (table_at db k) = subst (λ o. IfSome o (λ ks. Suffices ks.items p (table_at db k))) c.in-Some.is c.in_ok-keys.ensures in
    let over : None ≡ slice_get os k = search rules in
    subst (λ (d : Draft). Suffices keys p (table_at d.old k)) c.self.view_is (grounds-Suffices p db os k keys (subst (λ o. Suffices keys p (ground (table_at db k) o)) over here))
