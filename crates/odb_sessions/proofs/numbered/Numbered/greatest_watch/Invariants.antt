use Rattle.odb_sessions.proofs.WatchBounds.{Bounds}
use Rattle.odb_sessions.proofs.numbered.Numbered.greatest_watch.Given as goal

abbrev pub invariant-loop-key : goal.invariant-loop-key
invariant-loop-key l = Bounds l.self-inside.sessions.slots l.initial.key-iterator l.greatest l.key-iterator
