use Rattle.std.proofs.Common.{◌≡◌, false, map, sym, ap, ◌∙◌}
use Rattle.std.proofs.lemmas.Result.{IfOk-weaker}
use Rattle.std.specs.List.{list_any}
use Rattle.std.specs.Ordering.{eq_by_cmp}
use mathlib.Core.Logic.{inl}
use Rattle.odb_atoms.specs.FinMap as finite
use Rattle.odb_atoms.specs.Represented.Atom.{uuid_of}
use Rattle.odb_atoms.specs.Uuid.{Uuid, uuid_cmp}
use Rattle.odb_tables.specs.Database.{table_at}
use Rattle.odb_tables.specs.Indexed.{StaysApart, cells_at}
use Rattle.odb_tables.proofs.Touching.{alike_untouched, keeps-changed, where_listed}
use Rattle.odb_tables.proofs.draft.Draft.has_new_twins.Goals as goal

pub returns-then-are_alike-clause-apart : goal.returns-then-are_alike-clause-apart
returns-then-are_alike-clause-apart c e u =
    let old = table_at c.args.self.now.old c.args.table in
    let now = table_at c.args.self.now.now c.args.table in
    let places = c.args.places.now in
    let us = c.as_slice-touched.result.now in
    let same : list_any (eq_by_cmp uuid_cmp u) (map uuid_of us) ≡ false → finite.get now u ≡ finite.get old u = λ absent. c.in_ok-listed.ensures.as_it_was u (ap (λ xs. list_any (eq_by_cmp uuid_cmp u) (map uuid_of xs)) (sym c.as_slice-touched.ensures.value) ∙ absent) in
    where_listed (StaysApart places old now) u (list_any (eq_by_cmp uuid_cmp u) (map uuid_of us))
    (λ listed. inl (c.are_alike.ensures c.if-are_alike.true u listed))
    (λ absent. inl (alike_untouched (cells_at places) old now u (same absent)))

pub has_twins_among-requires : goal.has_twins_among-requires
has_twins_among-requires c =
    let old = table_at c.args.self.now.old c.args.table in
    let now = table_at c.args.self.now.now c.args.table in
    let us = c.as_slice-touched.result.now in
    keeps-changed c.in_ok-index.index old now (map uuid_of us) c.in_ok-index.ensures
    (λ u absent. c.in_ok-listed.ensures.as_it_was u (ap (λ xs. list_any (eq_by_cmp uuid_cmp u) (map uuid_of xs)) (sym c.as_slice-touched.ensures.value) ∙ absent))

pub returns-clause-apart : goal.returns-clause-apart
returns-clause-apart c =
    let old = table_at c.args.self.now.old c.args.table in
    let now = table_at c.args.self.now.now c.args.table in
    let places = c.args.places.now in
    let us = c.as_slice-touched.result.now in
    let same : (u : Uuid) → list_any (eq_by_cmp uuid_cmp u) (map uuid_of us) ≡ false → finite.get now u ≡ finite.get old u = λ u absent. c.in_ok-listed.ensures.as_it_was u (ap (λ xs. list_any (eq_by_cmp uuid_cmp u) (map uuid_of xs)) (sym c.as_slice-touched.ensures.value) ∙ absent) in
    IfOk-weaker c.has_twins_among.result _ _ (λ twins h e u. where_listed (StaysApart places old now) u (list_any (eq_by_cmp uuid_cmp u) (map uuid_of us)) (h e u)
    (λ absent. inl (alike_untouched (cells_at places) old now u (same u absent)))) c.has_twins_among.ensures.apart
