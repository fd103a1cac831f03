use Rattle.std.proofs.Common.{◌≡◌, take}
use Rattle.std.specs.BTreeSet.{contains}
use Rattle.std.specs.List.{list_any}
use Rattle.odb_integrity.specs.Represented.Reference.{mentions_gone}
use Rattle.odb_integrity.specs.Represented.RowId.{row_id_cmp}
use Rattle.odb_integrity.specs.Settlement.{RowId}
use Rattle.odb_integrity.proofs.referrers.referrers_of_missing.Given as goal

abbrev pub invariant-loop-row : goal.invariant-loop-row
invariant-loop-row l = (x : RowId) → contains row_id_cmp l.all x ≡ list_any (mentions_gone l.references l.draft.now x) (take l.row-index l.rows)
