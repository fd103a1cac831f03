use Rattle.std.proofs.Common.{◌≡◌, map, take}
use Rattle.odb_cond.specs.Represented.Clause.{selector_of}
use Rattle.odb_json.specs.Represented.Row.{cells_of}
use Rattle.odb_ops.specs.Execution.{expected}
use Rattle.odb_ops.proofs.wait.all_expected.Given as goal

abbrev pub invariant-loop-row : goal.invariant-loop-row
invariant-loop-row l = l.all.items ≡ map (λ row. expected l.declared (map selector_of l.columns) (cells_of row)) (take l.row-index l.rows)
