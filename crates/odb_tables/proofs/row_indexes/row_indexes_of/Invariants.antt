use Rattle.odb_tables.specs.Represented.RowIndex.{AreForNoRows}
use Rattle.odb_tables.proofs.row_indexes.row_indexes_of.Given as goal

abbrev pub invariant-loop-place : goal.invariant-loop-place
invariant-loop-place l = AreForNoRows l.row_indexes.items
