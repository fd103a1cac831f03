use Rattle.std.proofs.Common.{◌≡◌, drop, map}
use Rattle.odb_chain.specs.Chains.{Chains, IsNow}
use Rattle.odb_sessions.specs.Marked.{table_marks}
use Rattle.odb_sessions.specs.Moved.{Moves, brought_to}
use Rattle.odb_sessions.specs.Tied.{HasAll}
use Rattle.odb_sessions.proofs.Brought.{from_place}
use Rattle.odb_sessions.proofs.moving.bring_all.Given as goal

abbrev pub invariant-loop-place : goal.invariant-loop-place
invariant-loop-place l = record {
  has : HasAll l.past (table_marks (drop l.place l.tables.items));
  now : IsNow l.past;
  db : l.past.db ≡ l.initial.past.db;
  versions : l.past.versions ≡ l.initial.past.versions;
  made : from_place (brought_to l.initial.past) l.place l.tables.items ≡ map (brought_to l.initial.past) l.initial.tables.items;
  moves : (k : Chains) → Moves l.past k (table_marks (drop l.place l.tables.items)) → Moves l.initial.past k (table_marks l.initial.tables.items);
}
