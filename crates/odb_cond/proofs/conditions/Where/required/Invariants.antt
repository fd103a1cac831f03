use Rattle.std.proofs.Common.{◌≡◌}
use Rattle.odb_cond.proofs.conditions.Where.required.Given as goal

abbrev pub invariant-loop-clause : goal.invariant-loop-clause
invariant-loop-clause l = l.clause-items ≡ l.fn.self
