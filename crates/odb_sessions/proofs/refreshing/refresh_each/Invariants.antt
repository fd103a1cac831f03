use Rattle.std.proofs.Common.{◌≡◌}
use Rattle.odb_sessions.specs.Owed.{book_seen}
use Rattle.odb_sessions.specs.Tied.{IsTied}
use Rattle.odb_sessions.proofs.refreshing.refresh_each.Given as goal

abbrev pub invariant-loop-session : goal.invariant-loop-session
invariant-loop-session l = record {
  tied : IsTied l.past l.sessions;
  seen : book_seen l.past l.sessions ≡ book_seen l.initial.past l.initial.sessions;
}
