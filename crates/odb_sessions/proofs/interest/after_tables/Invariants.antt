use Rattle.std.proofs.Common.{◌≡◌, ◌++◌, map, take}
use Rattle.odb_sessions.specs.Owed.{filter_asked, table_of}
use Rattle.odb_sessions.proofs.interest.after_tables.Given as goal

abbrev pub invariant-loop-table : goal.invariant-loop-table
invariant-loop-table l = map table_of l.filters ≡ map table_of (map filter_asked (take l.table-index l.tables)) ++ map table_of l.left
