use Rattle.std.proofs.Common.{◌≡◌, ◌++◌, flat_map, take}
use Rattle.odb_sessions.specs.Owed.{filters_asked}
use Rattle.odb_sessions.proofs.interest.are_asked.Given as goal

abbrev pub invariant-loop-monitor : goal.invariant-loop-monitor
invariant-loop-monitor l = l.filters ≡ flat_map filters_asked (take l.monitor-index l.monitors) ++ l.left
