use Rattle.std.proofs.Common.{take}
use Rattle.std.specs.List.{All}
use Rattle.odb_sessions.specs.Composed.{AreNow}
use Rattle.odb_sessions.proofs.resting.are_told.Given as goal

abbrev pub invariant-loop-monitor : goal.invariant-loop-monitor
invariant-loop-monitor l = All (λ m. AreNow l.chains.db m.tables) (take l.monitor-index l.monitors)
