use Rattle.std.proofs.Common.{rules, ◌≡◌, ◌<◌, ◌&&◌, length, not, slice_index_or}
use Rattle.std.specs.BTreeSet.{contains}
use Rattle.std.specs.List.{list_any}
use Rattle.odb_integrity.specs.Gained.{gained, gaining}
use Rattle.odb_integrity.specs.Represented.RowId.{row_id_cmp}
use Rattle.odb_integrity.specs.Settlement.{same_row}
use Rattle.odb_integrity.specs.Touched.{hanging}
use Rattle.odb_integrity.proofs.Named.{flat_more_after}
use Rattle.odb_integrity.proofs.Sets.{grown}
use Rattle.odb_integrity.proofs.garbage.note_all.Goals as goal

pub loop-row-preserved : goal.loop-row-preserved
loop-row-preserved c =
    let s = c.args.schema.now in
    let old = c.args.draft.now.old in
    let now = c.args.draft.now.now in
    let rows = c.args.rows.now in
    let i = c.loop-row.row-index in
    let x = c.row-item.result in
    let inside : i < length rows = search rules in
    let is : x ≡ slice_index_or rows i x = search rules in
    record {
      lost = flat_more_after (hanging s old now) c.args.lost.now.items c.loop-row.lost.items c.note_row.new.lost.items rows i x inside is c.loop-row.invariant.lost c.in_ok-note_row.ensures.lost;
      referred = grown (λ x y. not (same_row x y) && list_any (same_row x) (gained s old now y)) (contains row_id_cmp c.args.referred.now) c.loop-row.referred c.note_row.new.referred rows i x inside is c.loop-row.invariant.referred c.in_ok-note_row.ensures.referred;
      gaining = flat_more_after (gaining s old now) c.args.gaining.now.items c.loop-row.gaining.items c.note_row.new.gaining.items rows i x inside is c.loop-row.invariant.gaining c.in_ok-note_row.ensures.gaining;
    }
