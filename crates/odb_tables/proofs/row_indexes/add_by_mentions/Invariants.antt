use Rattle.odb_tables.specs.Represented.RowIndex.{AreForNoRows}
use Rattle.odb_tables.proofs.row_indexes.add_by_mentions.Given as goal

abbrev pub invariant-loop-column : goal.invariant-loop-column
invariant-loop-column l = AreForNoRows l.initial.row_indexes.items → AreForNoRows l.row_indexes.items
