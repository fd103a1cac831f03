use Rattle.std.proofs.Common.{◌≡◌, ℕ, drop}
use Rattle.odb_interest.specs.Keys.{asked_at}
use Rattle.odb_sessions.specs.Owed.{KeepsResting}
use Rattle.odb_sessions.proofs.Interests.{forgotten}
use Rattle.odb_sessions.proofs.interest.forget_owed.Given as goal

abbrev pub invariant-loop-session : goal.invariant-loop-session
invariant-loop-session l = record {
  resting : KeepsResting l.owed l.initial.interest l.interest;
  forgets : (q : ℕ) → forgotten l.owed (drop l.session-index l.listed) q (asked_at l.interest q) ≡ forgotten l.owed l.listed q (asked_at l.initial.interest q);
}
