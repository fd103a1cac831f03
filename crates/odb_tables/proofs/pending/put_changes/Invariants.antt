use Rattle.std.proofs.Common.{◌≡◌, drop, length}
use Rattle.odb_tables.specs.Change.{all_changed_by}
use Rattle.odb_tables.specs.Database.{Db}
use Rattle.odb_tables.specs.Represented.Draft.{all_overlaid}
use Rattle.odb_tables.proofs.PutChanges.{changed_from}
use Rattle.odb_tables.proofs.pending.put_changes.Given as goal

abbrev pub invariant-loop-place : goal.invariant-loop-place
invariant-loop-place l = record {
  long : length l.overlays.items ≡ length l.initial.overlays.items;
  done : (db : Db) → length l.initial.overlays.items ≡ length db → changed_from l.place (all_overlaid db l.overlays.items) (drop l.place l.changes) ≡ all_changed_by (all_overlaid db l.initial.overlays.items) l.changes;
}
