use Rattle.std.proofs.Common.{rules, ◌≡◌, ◌<◌, ◌||◌, length, slice_index_or, true, ap, ◌∙◌}
use Rattle.std.specs.BTreeSet.{Updates, contains}
use Rattle.odb_atoms.specs.Represented.Atom.{uuid_of}
use Rattle.odb_integrity.specs.Represented.RowId.{row_id_cmp}
use Rattle.odb_integrity.specs.Settlement.{RowId, same_row}
use Rattle.odb_integrity.proofs.Sets.{grown, inserted}
use Rattle.odb_integrity.proofs.referrers.insert_all.Goals as goal

pub loop-uuid-preserved : goal.loop-uuid-preserved
loop-uuid-preserved c =
    let t = c.args.table in
    let us = c.args.uuids.now in
    let i = c.loop-uuid.uuid-index in
    let u = c.uuid-item.result in
    let inside : i < length us = search rules in
    let is : u ≡ slice_index_or us i u = search rules in
    let row : c.new.result ≡ (t, uuid_of u) = search rules in
    let added : Updates row_id_cmp c.loop-uuid.rows c.insert.new.self c.new.result true = search rules in
    grown (λ x v. same_row x (t, uuid_of v)) (contains row_id_cmp c.args.rows.now) c.loop-uuid.rows c.insert.new.self us i u inside is c.loop-uuid.invariant
    (λ x. inserted c.loop-uuid.rows c.insert.new.self c.new.result added x ∙ ap (λ (y : RowId). contains row_id_cmp c.loop-uuid.rows x || same_row x y) row)
