use Rattle.std.proofs.Common.{◌≡◌, vec_capacity, vec_len}
use Rattle.odb_sessions.proofs.watch.share_each.Given as goal

abbrev pub invariant-loop-place : goal.invariant-loop-place
invariant-loop-place l = record {
  monitors : l.monitors.items ≡ l.initial.monitors.items;
  few : vec_len l.monitors ≡ vec_len l.initial.monitors;
  capacity : vec_capacity l.monitors ≡ vec_capacity l.initial.monitors;
}
