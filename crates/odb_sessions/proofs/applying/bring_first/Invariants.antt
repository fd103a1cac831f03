use Rattle.std.proofs.Common.{◌≡◌, map}
use Rattle.std.specs.Prelude.{vec_capacity, vec_len}
use Rattle.odb_schema.specs.Schema.{Schema}
use Rattle.odb_service.specs.Server.{served_by}
use Rattle.odb_sessions.specs.Carried.{Carries, first_brought}
use Rattle.odb_sessions.specs.Marked.{monitor_of}
use Rattle.odb_sessions.proofs.Carried.{flat}
use Rattle.odb_sessions.proofs.applying.bring_first.Given as goal

abbrev pub invariant-loop-place : goal.invariant-loop-place
invariant-loop-place l = record {
  few : vec_len l.monitors ≡ vec_len l.initial.monitors;
  capacity : vec_capacity l.monitors ≡ vec_capacity l.initial.monitors;
  monitors : (s : Schema) → map monitor_of l.monitors.items ≡ first_brought (served_by s) l.initial.past.db l.place (map monitor_of l.initial.monitors.items);
  carried : Carries l.initial.past l.past (flat l.initial.monitors.items) (flat l.monitors.items);
}
