use Rattle.std.proofs.Common.{◌≡◌, ◌≤◌, length, map, take}
use Rattle.std.specs.Prelude.{vec_len, vec_capacity}
use Rattle.odb_round.specs.Foreseen.{as_told}
use Rattle.odb_round.proofs.foreseen.all_ahead.Given as goal

abbrev pub invariant-loop-monitor : goal.invariant-loop-monitor
invariant-loop-monitor l = (l.ahead.items ≡ map as_told (take l.monitor-index l.monitors)) × (vec_len l.ahead ≤ l.monitor-index) × (length l.monitors ≤ vec_capacity l.ahead)
