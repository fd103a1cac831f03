use Rattle.std.proofs.Common.{◌≡◌, ◌++◌, map, take}
use Rattle.odb_sessions.specs.Marked.{table_marks}
use Rattle.odb_sessions.proofs.lending.lend_tables.Given as goal

abbrev pub invariant-loop-table : goal.invariant-loop-table
invariant-loop-table l = map (λ m. m.now) l.marks.items ≡ map (λ m. m.now) l.initial.marks.items ++ table_marks (take l.table-index l.tables)
