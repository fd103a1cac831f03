use Rattle.std.proofs.Common.{◌≡◌, ◌+◌, ◌≤◌}
use Rattle.std.specs.Prelude.{IfSome}
use Rattle.odb_sessions.proofs.sessions.Sessions.forget_resting.Given as goal

abbrev pub invariant-loop-looked : goal.invariant-loop-looked
invariant-loop-looked l = (l.self ≡ l.initial.self) × IfSome l.next (λ next. l.from + l.looked ≤ next)
