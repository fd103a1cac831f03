use Rattle.std.proofs.Common.{◌≡◌}
use Rattle.odb_round.proofs.round.forget_each.Given as goal

abbrev pub invariant-loop-session : goal.invariant-loop-session
invariant-loop-session l = l.sessions ≡ l.initial.sessions
