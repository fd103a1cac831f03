use Rattle.std.proofs.Common.{ℕ, [], drop}
use Rattle.std.specs.BTreeSet.{BTreeSet}
use Rattle.odb_sessions.specs.Owed.{AreAdded}
use Rattle.odb_sessions.proofs.sessions.add_each.Given as goal

abbrev pub invariant-loop-session : goal.invariant-loop-session
invariant-loop-session l = AreAdded l.initial.owed l.owed [] × ((o : BTreeSet ℕ) → AreAdded l.owed o (drop l.session-index l.sessions) → AreAdded l.initial.owed o l.sessions)
