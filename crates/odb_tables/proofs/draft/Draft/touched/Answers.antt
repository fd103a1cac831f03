use Rattle.std.proofs.Common.{rules, ◌≡◌, ◌<◌, ◌≤◌, List, length, map, slice_index_or, is_some, sym, ap, subst, ◌∙◌}
use Rattle.std.proofs.lemmas.Result.{IfOk-weaker}
use Rattle.std.specs.List.{IsDistinct}
use Rattle.std.specs.Ordering.{eq_by_cmp}
use Rattle.odb_atoms.specs.FinMap as finite
use Rattle.odb_atoms.specs.Represented.Atom.{uuid_of}
use Rattle.odb_atoms.specs.Uuid.{uuid_cmp}
use Rattle.odb_atoms.proofs.FinMaps.{get-empty}
use Rattle.odb_tables.specs.Database.{Db, table_at}
use Rattle.odb_tables.specs.Draft.{Draft}
use Rattle.odb_tables.specs.Represented.Draft.{grounds}
use Rattle.odb_tables.specs.Represented.Overlay.{Touched}
use Rattle.odb_tables.proofs.Overlays.{as_it_was, none_twice, touched-is, untouched-past}
use Rattle.odb_tables.proofs.draft.Draft.touched.Goals as goal

pub returns-in-Some-clause-as_it_was : goal.returns-in-Some-clause-as_it_was
returns-in-Some-clause-as_it_was c =
    let db : Db = grounds c.self.inside.base.now c.self.inside.under.now in
    let os : List Touched = c.self.inside.overlays.items in
    let o : Touched = c.in-Some.overlay.now in
    let k = c.args.table in
    let long : length os ≡ length db = c.self.invariant.0 in
    let inside : k < length os = search rules in
    let at : o ≡ slice_index_or os k o = search rules in
    IfOk-weaker c.list.result _ _ (λ uuids listed u absent.
    ap (λ (d : Draft). finite.get (table_at d.now k) u) (sym c.self.view_is)
    ∙ as_it_was db os k o u long (touched-is os k o inside at) (sym (listed u) ∙ absent)
    ∙ ap (λ (d : Draft). finite.get (table_at d.old k) u) c.self.view_is) c.list.ensures.touched

pub returns-in-None-clause-as_it_was : goal.returns-in-None-clause-as_it_was
returns-in-None-clause-as_it_was c u absent =
    let db : Db = grounds c.self.inside.base.now c.self.inside.under.now in
    let os : List Touched = c.self.inside.overlays.items in
    let k = c.args.table in
    let long : length os ≡ length db = c.self.invariant.0 in
    let past : length os ≤ k = search rules in
    ap (λ (d : Draft). finite.get (table_at d.now k) u) (sym c.self.view_is)
    ∙ as_it_was db os k finite.empty u long (sym (untouched-past os k past)) (ap is_some (get-empty uuid_cmp u))
    ∙ ap (λ (d : Draft). finite.get (table_at d.old k) u) c.self.view_is

pub returns-in-None-clause-distinct : goal.returns-in-None-clause-distinct
returns-in-None-clause-distinct c = subst (λ us. IsDistinct (eq_by_cmp uuid_cmp) (map uuid_of us)) (sym c.new.ensures.items) none_twice
