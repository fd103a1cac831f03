use Rattle.std.proofs.Common.{◌≡◌, drop, map}
use Rattle.odb_sessions.specs.Composed.{asked_of}
use Rattle.odb_sessions.specs.Moved.{asked_under}
use Rattle.odb_sessions.specs.Represented.Item.{filters_of}
use Rattle.odb_sessions.specs.Started.{AreApart}
use Rattle.odb_sessions.proofs.Brought.{from_place}
use Rattle.odb_sessions.proofs.TakenFilters.{SameFor}
use Rattle.odb_sessions.proofs.moving.ask_all_under.Given as goal

abbrev pub invariant-loop-place : goal.invariant-loop-place
invariant-loop-place l = record {
  apart : AreApart (asked_of (drop l.place l.tables.items));
  named : SameFor (filters_of l.initial.changes) (filters_of l.changes) (drop l.place l.tables.items);
  made : from_place (asked_under (filters_of l.initial.changes)) l.place l.tables.items ≡ map (asked_under (filters_of l.initial.changes)) l.initial.tables.items;
}
