use Rattle.std.proofs.Common.{rules, ◌≡◌, ◌<◌, length, not, true, false, slice_index_or}
use Rattle.std.specs.BTreeSet.{Updates}
use Rattle.std.specs.Ordering.{eq_by_cmp}
use Rattle.odb_integrity.specs.Represented.RowId.{row_id_cmp}
use Rattle.odb_integrity.proofs.Referents.{itself_passed, other_added}
use Rattle.odb_integrity.proofs.garbage.insert_others.Goals as goal
use Rattle.odb_integrity.proofs.garbage.insert_others.Goals.{then-ne+in_ok-insert, else-ne}

pub loop-row-preserved : goal.loop-row-preserved
loop-row-preserved c =
    let rows = c.args.rows.now in
    let i = c.loop-row.row-index in
    let y = c.row-item.result in
    let inside : i < length rows = search rules in
    let is : y ≡ slice_index_or rows i y = search rules in
    elim c.if-ne.branch [
      | then-ne+in_ok-insert w ↦
          let differs : true ≡ not (eq_by_cmp row_id_cmp y c.args.id) = search rules in
          let added : Updates row_id_cmp c.loop-row.referred c.if-ne.referred y true = search rules in
          other_added c.args.referred.now c.loop-row.referred c.if-ne.referred c.args.id y rows i inside is c.loop-row.invariant differs added
      | else-ne w ↦
          let same : false ≡ not (eq_by_cmp row_id_cmp y c.args.id) = search rules in
          itself_passed c.args.referred.now c.loop-row.referred c.if-ne.referred c.args.id y rows i inside is c.loop-row.invariant same w.referred-is
    ]
