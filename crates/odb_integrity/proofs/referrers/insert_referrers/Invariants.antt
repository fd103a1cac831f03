use Rattle.std.proofs.Common.{◌≡◌, ◌||◌, take}
use Rattle.std.specs.BTreeSet.{contains}
use Rattle.std.specs.List.{list_any}
use Rattle.odb_integrity.specs.Represented.Reference.{mentions_by}
use Rattle.odb_integrity.specs.Represented.RowId.{row_id_cmp}
use Rattle.odb_integrity.specs.Settlement.{RowId}
use Rattle.odb_integrity.proofs.referrers.insert_referrers.Given as goal

abbrev pub invariant-loop-reference : goal.invariant-loop-reference
invariant-loop-reference l = (x : RowId) → contains row_id_cmp l.all x ≡ (contains row_id_cmp l.fn.all x || list_any (mentions_by l.draft.now x l.row) (take l.reference-index l.references))
