use Rattle.std.proofs.Common.{map, take}
use Rattle.odb_interest.specs.Keys.{asked_at}
use Rattle.odb_sessions.specs.Owed.{IsPut, KeepsOthers, filter_asked}
use Rattle.odb_sessions.proofs.interest.put_tables.Given as goal

abbrev pub invariant-loop-table : goal.invariant-loop-table
invariant-loop-table l = record {
  others : KeepsOthers l.initial.interest l.interest l.session;
  asked : IsPut (asked_at l.initial.interest l.session) (asked_at l.interest l.session) l.from (map filter_asked (take l.table-index l.tables)) l.place;
}
