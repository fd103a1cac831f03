use Rattle.std.proofs.Common.{◌≡◌, ◌≤◌, ◌++◌, drop, length}
use Rattle.std.specs.Prelude.{vec_len, vec_capacity}
use Rattle.odb_sessions.specs.Composed.{all_asked_as}
use Rattle.odb_sessions.proofs.owed.all_owed_as.Given as goal

abbrev pub invariant-loop-place : goal.invariant-loop-place
invariant-loop-place l = record {
  all : l.owed.items ++ all_asked_as (drop l.place l.tables) (drop l.place l.requests) ≡ all_asked_as l.tables l.requests;
  few : vec_len l.owed ≤ l.place;
  room : length l.tables ≤ vec_capacity l.owed;
}
