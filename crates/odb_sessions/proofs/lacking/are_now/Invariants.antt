use Rattle.std.proofs.Common.{take}
use Rattle.odb_sessions.specs.Composed.{AreNow}
use Rattle.odb_sessions.proofs.lacking.are_now.Given as goal

abbrev pub invariant-loop-table : goal.invariant-loop-table
invariant-loop-table l = AreNow l.chains.db (take l.table-index l.tables)
