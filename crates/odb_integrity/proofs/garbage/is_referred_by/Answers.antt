use Rattle.std.proofs.Common.{rules, ◌≡◌, ◌&&◌, ◌==◌, true, map, sym, ap, ◌∙◌}
use Rattle.std.specs.List.{list_any}
use Rattle.std.specs.Ordering.{eq_by_cmp}
use Rattle.odb_atoms.proofs.Lists.{any_gives, both}
use Rattle.odb_atoms.specs.Represented.Atom.{uuid_of}
use Rattle.odb_atoms.specs.Uuid.{uuid_cmp}
use Rattle.odb_tables.specs.Database.{table_at}
use Rattle.odb_tables.specs.Indexed.{refers_at}
use Rattle.odb_integrity.specs.Touched.{is_referrer}
use Rattle.odb_integrity.proofs.Referring.{none_in_table, one_refers}
use Rattle.odb_integrity.proofs.garbage.is_referred_by.Goals as goal

pub returns-clause-found : goal.returns-clause-found
returns-clause-found c e =
    let s = c.args.schema.now in
    let now = c.args.draft.now.now in
    let x = c.args.row in
    let t = c.table-3.result in
    let w = any_gives (λ u. is_referrer s now x (t, uuid_of u)) c.deref.result.now (sym c.has_referrer.ensures ∙ e) in
    one_refers s now x (t, uuid_of w.0) w.2

pub returns-clause-none : goal.returns-clause-none
returns-clause-none c none strong y m =
    let s = c.args.schema.now in
    let now = c.args.draft.now.now in
    let x = c.args.row in
    let f = c.args.reference.now in
    let t = c.table-3.result in
    let us = c.deref.result.now in
    let table : f.table ≡ t = search rules in
    let first : c.table-2.result ≡ f.table = search rules in
    let place : c.place.result ≡ f.place = search rules in
    let uuid : uuid_of c.uuid.result ≡ x.1 = search rules in
    let h = both (f.target == x.0) ((y.0 == f.table) && refers_at f.place x.1 (table_at now f.table) y.1) m in
    let k = both (y.0 == f.table) (refers_at f.place x.1 (table_at now f.table) y.1) h.1 in
    let listed : list_any (eq_by_cmp uuid_cmp y.1) (map uuid_of us) ≡ true =
    ap (λ vs. list_any (eq_by_cmp uuid_cmp y.1) (map uuid_of vs)) c.deref.ensures.value
    ∙ c.in_ok-uuids.ensures.referrers y.1
    ∙ (λ i. refers_at (place i) (uuid i) (table_at now (first i)) y.1)
    ∙ k.1 in
    none_in_table (is_referrer s now x) t us (sym c.has_referrer.ensures ∙ none) y (ap (λ n. y.0 == n) (sym table) ∙ k.0) listed
