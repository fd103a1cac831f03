use Rattle.std.proofs.Common.{◌≡◌, drop}
use Rattle.odb_cond.specs.Pinned.{pinned}
use Rattle.odb_cond.proofs.conditions.Where.pinned.Given as goal

abbrev pub invariant-loop-clause : goal.invariant-loop-clause
invariant-loop-clause l = pinned (drop l.clause-index l.clause-items) ≡ pinned l.fn.self
