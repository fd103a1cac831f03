use Rattle.std.proofs.Common.{◌≡◌, ◌++◌, replicate}
use Rattle.odb_schema.specs.Json.{null}
use Rattle.odb_ops.proofs.execution.with_nulls.Given as goal

abbrev pub invariant-loop : goal.invariant-loop
invariant-loop l = l.results.items ≡ l.fn.results.items ++ replicate l.counter null
