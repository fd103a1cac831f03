use Rattle.std.proofs.Common.{◌≡◌, ◌++◌, flat_map, take}
use Rattle.odb_interest.specs.Keys.{asked_at}
use Rattle.odb_sessions.specs.Owed.{KeepsOthers, filters_asked}
use Rattle.odb_sessions.proofs.interest.add_monitors.Given as goal

abbrev pub invariant-loop-monitor : goal.invariant-loop-monitor
invariant-loop-monitor l = record {
  others : KeepsOthers l.initial.interest l.interest l.session;
  asked : asked_at l.interest l.session ≡ asked_at l.initial.interest l.session ++ flat_map filters_asked (take l.monitor-index l.monitors);
}
