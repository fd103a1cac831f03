use Rattle.std.proofs.Common.{flat_map, take}
use Rattle.odb_interest.specs.Keys.{asked_at}
use Rattle.odb_sessions.specs.Owed.{IsPut, KeepsOthers, filters_asked}
use Rattle.odb_sessions.proofs.interest.put_monitors.Given as goal

abbrev pub invariant-loop-monitor : goal.invariant-loop-monitor
invariant-loop-monitor l = record {
  others : KeepsOthers l.initial.interest l.interest l.session;
  asked : IsPut (asked_at l.initial.interest l.session) (asked_at l.interest l.session) 0 (flat_map filters_asked (take l.monitor-index l.monitors)) l.place;
}
