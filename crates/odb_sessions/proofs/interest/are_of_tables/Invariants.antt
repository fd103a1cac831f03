use Rattle.std.proofs.Common.{◌≡◌, ◌++◌, flat_map, map, take}
use Rattle.odb_sessions.specs.Owed.{filters_asked, table_of}
use Rattle.odb_sessions.proofs.interest.are_of_tables.Given as goal

abbrev pub invariant-loop-monitor : goal.invariant-loop-monitor
invariant-loop-monitor l = map table_of l.filters ≡ map table_of (flat_map filters_asked (take l.monitor-index l.monitors)) ++ map table_of l.left
