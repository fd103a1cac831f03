use Rattle.std.proofs.Common.{◌≡◌, map, take}
use Rattle.odb_atoms.specs.Represented.Atom.{uuid_of}
use Rattle.odb_atoms.specs.Row.{cell}
use Rattle.odb_cond.specs.Represented.Clause.{selector_of}
use Rattle.odb_ops.proofs.cells.project.Given as goal

abbrev pub invariant-loop-column : goal.invariant-loop-column
invariant-loop-column l = l.values.items ≡ map (λ c. cell (uuid_of l.uuid) l.row (selector_of c)) (take l.column-index l.columns)
