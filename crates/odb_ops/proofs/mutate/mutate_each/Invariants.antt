use Rattle.std.proofs.Common.{◌≡◌, drop, true}
use Rattle.odb_ops.specs.Execution.{mutated}
use Rattle.odb_tables.specs.Typed.{fits}
use Rattle.odb_ops.proofs.mutate.mutate_each.Given as goal

abbrev pub invariant-loop-mutation : goal.invariant-loop-mutation
invariant-loop-mutation l = (fits l.columns l.row ≡ true) × (mutated l.columns (drop l.mutation-index l.mutations) l.row ≡ mutated l.columns l.mutations l.fn.row)
