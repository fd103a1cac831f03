use Rattle.std.proofs.Common.{◌≡◌, ◌++◌, ◌||◌, flat_map, take}
use Rattle.std.specs.BTreeSet.{contains}
use Rattle.odb_integrity.specs.Gained.{gaining}
use Rattle.odb_integrity.specs.Represented.RowId.{row_id_cmp}
use Rattle.odb_integrity.specs.Settlement.{RowId}
use Rattle.odb_integrity.specs.Touched.{hanging, is_newly_referred}
use Rattle.odb_integrity.proofs.garbage.note_all.Given as goal

abbrev pub invariant-loop-row : goal.invariant-loop-row
invariant-loop-row l = record {
  lost : l.lost.items ≡ l.fn.lost.items ++ flat_map (hanging l.schema l.draft.old l.draft.now) (take l.row-index l.rows);
  referred : (x : RowId) → contains row_id_cmp l.referred x ≡ (contains row_id_cmp l.fn.referred x || is_newly_referred l.schema l.draft.old l.draft.now (take l.row-index l.rows) x);
  gaining : l.gaining.items ≡ l.fn.gaining.items ++ flat_map (gaining l.schema l.draft.old l.draft.now) (take l.row-index l.rows);
}
