use Rattle.odb_tables.specs.Represented.RowIndex.{AreForNoRows}
use Rattle.odb_tables.proofs.row_indexes.add_by_values.Given as goal

abbrev pub invariant-loop-names : goal.invariant-loop-names
invariant-loop-names l = AreForNoRows l.initial.row_indexes.items → AreForNoRows l.row_indexes.items
