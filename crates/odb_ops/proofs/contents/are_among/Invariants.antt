use Rattle.std.proofs.Common.{◌≡◌, List, drop}
use Rattle.odb_atoms.specs.Value as model
use Rattle.odb_ops.specs.Execution.{each_in}
use Rattle.odb_ops.specs.Represented.Cells.{IsSetOf}
use Rattle.odb_ops.proofs.contents.are_among.Given as goal

abbrev pub invariant-loop-row : goal.invariant-loop-row
invariant-loop-row l = (others : List (List model.Value)) → IsSetOf l.set others → each_in l.rows others ≡ each_in (drop l.row-index l.rows) others
