use Rattle.odb_tables.specs.Represented.RowIndex.{CutsAll}
use Rattle.odb_tables.proofs.row_index.cut.Given as goal

abbrev pub invariant-loop-row : goal.invariant-loop-row
invariant-loop-row l = CutsAll l.facet l.initial.pairs l.pairs l.side l.change
