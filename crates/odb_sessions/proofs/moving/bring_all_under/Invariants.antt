use Rattle.std.proofs.Common.{◌≡◌, drop, map}
use Rattle.odb_chain.specs.Chains.{Chains, IsNow}
use Rattle.odb_sessions.specs.Composed.{asked_of}
use Rattle.odb_sessions.specs.Marked.{table_marks}
use Rattle.odb_sessions.specs.Moved.{Moves, brought_under}
use Rattle.odb_sessions.specs.Tied.{HasAll}
use Rattle.odb_sessions.specs.Represented.Item.{filters_of}
use Rattle.odb_sessions.specs.Started.{AreApart}
use Rattle.odb_sessions.proofs.Brought.{from_place}
use Rattle.odb_sessions.proofs.TakenFilters.{SameFor}
use Rattle.odb_sessions.proofs.moving.bring_all_under.Given as goal

abbrev pub invariant-loop-place : goal.invariant-loop-place
invariant-loop-place l = record {
  has : HasAll l.past (table_marks (drop l.place l.tables.items));
  now : IsNow l.past;
  apart : AreApart (asked_of (drop l.place l.tables.items));
  named : SameFor (filters_of l.initial.changes) (filters_of l.changes) (drop l.place l.tables.items);
  db : l.past.db ≡ l.initial.past.db;
  versions : l.past.versions ≡ l.initial.past.versions;
  made : from_place (brought_under l.initial.past (filters_of l.initial.changes)) l.place l.tables.items ≡ map (brought_under l.initial.past (filters_of l.initial.changes)) l.initial.tables.items;
  moves : (k : Chains) → Moves l.past k (table_marks (drop l.place l.tables.items)) → Moves l.initial.past k (table_marks l.initial.tables.items);
}
