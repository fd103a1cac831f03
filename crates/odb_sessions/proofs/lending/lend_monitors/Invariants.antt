use Rattle.std.proofs.Common.{drop}
use Rattle.odb_sessions.specs.Marked.{marks_in}
use Rattle.odb_sessions.proofs.Lent.{Lends}
use Rattle.odb_sessions.proofs.lending.lend_monitors.Given as goal

abbrev pub invariant-loop-monitor : goal.invariant-loop-monitor
invariant-loop-monitor l = Lends marks_in l.initial.marks.items l.monitors l.marks.items (drop l.monitor-index l.monitors)
