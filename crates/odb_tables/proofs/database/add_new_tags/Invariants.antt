use Rattle.std.proofs.Common.{◌≡◌, length}
use Rattle.odb_tables.specs.Database.{Db}
use Rattle.odb_tables.specs.Installing.{IsChangeOf}
use Rattle.odb_tables.specs.Represented.RowIndex.{AreIndexesOf, IsIndexOf, IsReady}
use Rattle.odb_tables.proofs.RowIndexes.{Mixed}
use Rattle.odb_tables.proofs.database.add_new_tags.Given as goal

abbrev pub invariant-loop-place : goal.invariant-loop-place
invariant-loop-place l = record {
  long : length l.indexes.items ≡ length l.initial.indexes.items;
  still : (db : Db) → AreIndexesOf db l.initial.indexes.items → AreIndexesOf db l.indexes.items;
  ready : (db : Db) → IsChangeOf db l.changes → AreIndexesOf db l.initial.indexes.items → Mixed (IsIndexOf db) (IsReady db l.changes) l.place l.indexes.items;
}
