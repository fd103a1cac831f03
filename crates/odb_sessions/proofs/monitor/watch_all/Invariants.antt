use Rattle.std.proofs.Common.{◌≡◌, ◌+◌, ◌^◌, ◌<◌, ◌≤◌, ◌++◌, length, map}
use Rattle.std.specs.Prelude.{vec_len, vec_capacity}
use Rattle.odb_sessions.specs.Composed.{AreTheirs}
use Rattle.odb_sessions.specs.Marked.{table_marks}
use Rattle.odb_sessions.specs.Started.{AreOfTables}
use Rattle.odb_sessions.specs.Tied.{Adds, counted_in}
use Rattle.odb_sessions.proofs.monitor.watch_all.Given as goal

abbrev pub invariant-loop-request : goal.invariant-loop-request
invariant-loop-request l = record {
  inside : AreOfTables l.chains.db l.request-iterator.rest.items;
  few : counted_in l.chains.live + length l.request-iterator.rest.items < 2 ^ 64;
  counted : counted_in l.chains.live ≡ counted_in l.initial.chains.live + length l.tables.items;
  lives : length l.chains.live ≡ length l.chains.db;
  adds : Adds l.initial.chains l.chains (table_marks l.tables.items);
  asked : map (λ w. w.request) l.tables.items ++ l.request-iterator.rest.items ≡ l.initial.request-iterator.rest.items;
  theirs : AreTheirs l.tables.items;
  room : vec_len l.tables + length l.request-iterator.rest.items ≤ vec_capacity l.tables;
}
