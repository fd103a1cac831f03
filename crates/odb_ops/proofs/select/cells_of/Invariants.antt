use Rattle.std.proofs.Common.{◌≡◌, map, take}
use Rattle.odb_tables.specs.Represented.Table.{listed}
use Rattle.odb_ops.proofs.select.cells_of.Given as goal

abbrev pub invariant-loop-row : goal.invariant-loop-row
invariant-loop-row l = l.cells.items ≡ map listed (take l.row-index l.rows)
