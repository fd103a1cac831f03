use Rattle.std.proofs.Common.{take}
use Rattle.odb_ops.specs.Represented.Cells.{IsSetOf}
use Rattle.odb_ops.proofs.contents.contents.Given as goal

abbrev pub invariant-loop-row : goal.invariant-loop-row
invariant-loop-row l = IsSetOf l.seen (take l.row-index l.rows)
