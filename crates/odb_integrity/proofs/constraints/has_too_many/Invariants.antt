use Rattle.std.proofs.Common.{◌≡◌, drop, zip}
use Rattle.std.specs.List.{list_all}
use Rattle.odb_integrity.specs.Settlement.{within_max_rows}
use Rattle.odb_integrity.proofs.constraints.has_too_many.Given as goal

abbrev pub invariant-loop-place : goal.invariant-loop-place
invariant-loop-place l = list_all within_max_rows (zip (drop l.place l.table-items) (drop l.place l.draft.now)) ≡ list_all within_max_rows (zip l.schema.tables l.draft.now)
