use Rattle.std.proofs.Common.{◌≡◌, map, take}
use Rattle.odb_sessions.specs.Named.{named_of}
use Rattle.odb_sessions.proofs.named.all_named.Given as goal

abbrev pub invariant-loop-monitor : goal.invariant-loop-monitor
invariant-loop-monitor l = l.named.items ≡ map named_of (take l.monitor-index l.monitors)
