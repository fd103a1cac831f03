use Rattle.std.proofs.Common.{◌≡◌, map, take}
use Rattle.odb_cond.specs.Represented.Clause.{selector_of}
use Rattle.odb_json.specs.Represented.Row.{cell_of}
use Rattle.odb_ops.specs.Represented.Cells.{value_in}
use Rattle.odb_ops.proofs.wait.expected.Given as goal

abbrev pub invariant-loop-column : goal.invariant-loop-column
invariant-loop-column l = l.values.items ≡ map (λ c. value_in l.declared (map cell_of l.given) (selector_of c)) (take l.column-index l.columns)
