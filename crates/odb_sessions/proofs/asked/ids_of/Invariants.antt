use Rattle.std.proofs.Common.{◌≡◌, map, take}
use Rattle.std.specs.Arc.{arc_value}
use Rattle.odb_sessions.proofs.asked.ids_of.Given as goal

abbrev pub invariant-loop-monitor : goal.invariant-loop-monitor
invariant-loop-monitor l = map arc_value l.ids.items ≡ map (λ h. h.id) (take l.monitor-index l.monitors)
