use Rattle.std.proofs.Common.{rules, ◌≡◌, ◌&&◌, ◌||◌, ◌==◌, map, true, sym, ap, ◌∙◌}
use Rattle.std.specs.BTreeSet.{contains}
use Rattle.std.specs.List.{list_any}
use Rattle.std.specs.Ordering.{eq_by_cmp}
use Rattle.std.proofs.lemmas.Result.{on_ok_weaker}
use Rattle.odb_atoms.specs.Represented.Atom.{uuid_of}
use Rattle.odb_atoms.specs.Uuid.{uuid_cmp}
use Rattle.odb_tables.specs.Database.{table_at}
use Rattle.odb_tables.specs.Indexed.{refers_at}
use Rattle.odb_integrity.specs.Represented.RowId.{row_id_cmp}
use Rattle.odb_integrity.proofs.Sets.{any-in_table}
use Rattle.odb_integrity.proofs.referrers.insert_by.Goals as goal

pub returns : goal.returns
returns c =
    let f = c.args.reference.now in
    let y = c.args.row in
    let now = c.args.draft.now.now in
    let target : (f.target == y.0) ≡ true = search rules in
    let uuid : uuid_of c.uuid.result ≡ y.1 = search rules in
    on_ok_weaker c.insert_all.result (λ e x.
    e x ∙ ap (λ b. contains row_id_cmp c.args.rows.now x || b)
    (any-in_table x f.table c.deref.result.now
    ∙ ap (λ us. (x.0 == f.table) && list_any (eq_by_cmp uuid_cmp x.1) (map uuid_of us)) c.deref.ensures.value
    ∙ ap (λ b. (x.0 == f.table) && b) (c.in_ok-uuids.ensures.referrers x.1 ∙ ap (λ u. refers_at f.place u (table_at now f.table) x.1) uuid)
    ∙ sym (ap (λ b. b && ((x.0 == f.table) && refers_at f.place y.1 (table_at now f.table) x.1)) target))) c.insert_all.ensures
