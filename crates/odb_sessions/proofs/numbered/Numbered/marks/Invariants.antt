use Rattle.odb_sessions.proofs.Lent.{Lends}
use Rattle.odb_sessions.proofs.Numbers.{marks_under}
use Rattle.odb_sessions.proofs.numbered.Numbered.marks.Given as goal

abbrev pub invariant-loop-key : goal.invariant-loop-key
invariant-loop-key l = Lends (marks_under l.self-inside.sessions.slots) l.initial.marks.items l.initial.key-iterator l.marks.items l.key-iterator
