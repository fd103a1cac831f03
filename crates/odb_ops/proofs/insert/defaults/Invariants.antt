use Rattle.std.proofs.Common.{◌≡◌, map, take}
use Rattle.odb_atoms.specs.ColType.{default_of}
use Rattle.odb_ops.proofs.insert.defaults.Given as goal

abbrev pub invariant-loop-column : goal.invariant-loop-column
invariant-loop-column l = l.values.items ≡ map (λ c. default_of c.type) (take l.column-index l.columns)
