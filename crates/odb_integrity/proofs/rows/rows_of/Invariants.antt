use Rattle.std.proofs.Common.{◌≡◌, take}
use Rattle.odb_integrity.specs.Settlement.{row_ids}
use Rattle.odb_integrity.proofs.rows.rows_of.Given as goal

abbrev pub invariant-loop-place : goal.invariant-loop-place
invariant-loop-place l = l.rows.items ≡ row_ids (take l.place l.draft.now)
