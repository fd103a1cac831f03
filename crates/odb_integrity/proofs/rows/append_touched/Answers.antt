use Rattle.std.proofs.Common.{rules, ◌≡◌, ◌++◌, map, sym, ap, ◌∙◌}
use Rattle.std.proofs.lemmas.List.{take_all}
use Rattle.odb_atoms.proofs.Represented.Values.{map-map}
use Rattle.odb_atoms.specs.Represented.Atom.{uuid_of}
use Rattle.odb_atoms.specs.Uuid.{Uuid}
use Rattle.odb_integrity.specs.Settlement.{RowId}
use Rattle.odb_integrity.proofs.Touched.{others_listed, own_listed}
use Rattle.odb_integrity.proofs.rows.append_touched.Goals as goal

pub returns-clause-table : goal.returns-clause-table
returns-clause-table c u absent =
    let t = c.args.table in
    let uuids = c.deref-uuid-items.result.now in
    let all : c.loop-uuid.rows.items ≡ c.args.rows.now.items ++ map (λ uuid. let x : RowId = (t, uuid_of uuid) in x) uuids = c.loop-uuid.invariant ∙ ap (λ us. c.args.rows.now.items ++ map (λ uuid. let x : RowId = (t, uuid_of uuid) in x) us) (take_all c.loop-uuid.uuid-index uuids (search rules)) in
    let listed : c.loop-uuid.rows.items ≡ c.args.rows.now.items ++ map (λ u. let x : RowId = (t, u) in x) (map uuid_of c.in_ok-uuids.uuids.items) = all ∙ ap (λ ys. c.args.rows.now.items ++ ys) (sym (map-map (λ (u : Uuid). let x : RowId = (t, u) in x) uuid_of uuids) ∙ ap (λ us. map (λ u. let x : RowId = (t, u) in x) (map uuid_of us)) c.deref-uuid-items.ensures.value) in
    c.in_ok-uuids.ensures.as_it_was u (own_listed t u c.args.rows.now.items c.loop-uuid.rows.items (map uuid_of c.in_ok-uuids.uuids.items) listed absent)

pub returns-clause-others : goal.returns-clause-others
returns-clause-others c k h = others_listed c.args.draft.now.old c.args.draft.now.now k c.args.rows.now.items c.loop-uuid.rows.items _ c.loop-uuid.invariant h
