use Rattle.std.proofs.Common.{◌≡◌, ◌≤◌, ◌++◌, drop, length}
use Rattle.std.specs.Prelude.{vec_len, vec_capacity}
use Rattle.odb_sessions.specs.Filtered.{all_parts_again}
use Rattle.odb_sessions.specs.Represented.Under.{filters_in}
use Rattle.odb_sessions.proofs.owed.parts_again.Given as goal

abbrev pub invariant-loop-place : goal.invariant-loop-place
invariant-loop-place l = record {
  all : l.parts.items ++ all_parts_again l.chains.db (filters_in l.told) (drop l.place l.tables) (drop l.place l.requests)
      ≡ all_parts_again l.chains.db (filters_in l.told) l.tables l.requests;
  few : vec_len l.parts ≤ l.place;
  room : length l.tables ≤ vec_capacity l.parts;
}
