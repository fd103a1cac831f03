use Rattle.std.proofs.Common.{◌++◌, List, drop, map}
use Rattle.odb_monitor.specs.Job.{Part}
use Rattle.odb_sessions.specs.Composed.{part_to}
use Rattle.odb_sessions.proofs.Silent.{Same}
use Rattle.odb_sessions.proofs.owed.parts_lacking.Given as goal

-- with what is sent as of the rest, the parts so far are sent as all
abbrev pub invariant-loop-table : goal.invariant-loop-table
invariant-loop-table l =
    (qs : List Part) → Same (map (part_to l.chains.db) (drop l.table-index l.tables)) qs → Same (map (part_to l.chains.db) l.tables) (l.parts.items ++ qs)
