use Rattle.std.proofs.Common.{◌≡◌, map, take}
use Rattle.odb_atoms.specs.Row.{cell}
use Rattle.odb_cond.specs.Represented.Clause.{selector_of}
use Rattle.odb_ops.proofs.contents.content_of.Given as goal

abbrev pub invariant-loop-column : goal.invariant-loop-column
invariant-loop-column l = map (λ v. v.now) l.values.items ≡ map (λ c. cell l.row.0 l.row.1 (selector_of c)) (take l.column-index l.columns)
