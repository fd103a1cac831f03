use Rattle.odb_tables.specs.Represented.RowIndex.{CutsAll}
use Rattle.odb_tables.specs.declared.row_index.Side.TheVariants.{Old}
use Rattle.odb_tables.proofs.row_index.cut_tags.Given as goal

abbrev pub invariant-loop-place : goal.invariant-loop-place
invariant-loop-place l = CutsAll l.facet l.initial.pairs l.pairs Old l.change
