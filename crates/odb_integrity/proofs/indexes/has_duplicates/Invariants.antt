use Rattle.std.proofs.Common.{◌≡◌, drop, zip}
use Rattle.std.specs.List.{list_any}
use Rattle.odb_integrity.specs.Settlement.{has_duplicates}
use Rattle.odb_integrity.proofs.indexes.has_duplicates.Given as goal

abbrev pub invariant-loop-place : goal.invariant-loop-place
invariant-loop-place l = list_any has_duplicates (zip (drop l.place l.table-items) (drop l.place l.draft.now)) ≡ list_any has_duplicates (zip l.schema.tables l.draft.now)
