use Rattle.std.proofs.Common.{◌≡◌, ◌++◌, map, take}
use Rattle.odb_sessions.specs.Owed.{filter_asked}
use Rattle.odb_sessions.proofs.interest.after.Given as goal

abbrev pub invariant-loop-table : goal.invariant-loop-table
invariant-loop-table l = l.filters ≡ map filter_asked (take l.table-index l.tables) ++ l.left
