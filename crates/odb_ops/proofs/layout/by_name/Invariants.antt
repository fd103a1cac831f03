use Rattle.std.proofs.Common.{◌≡◌, drop, map}
use Rattle.odb_cond.specs.Represented.Clause.{selector_of}
use Rattle.odb_ops.specs.Represented.Layout.{by_name}
use Rattle.odb_ops.proofs.layout.by_name.Given as goal

abbrev pub invariant-loop-place : goal.invariant-loop-place
invariant-loop-place l = map selector_of l.ordered.items ≡ by_name l.declared (map selector_of (drop l.place l.columns))
