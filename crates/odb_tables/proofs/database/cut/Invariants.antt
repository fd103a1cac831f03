use Rattle.std.proofs.Common.{◌≡◌, length}
use Rattle.odb_tables.specs.Change.{all_changed_by}
use Rattle.odb_tables.specs.Database.{Db}
use Rattle.odb_tables.specs.Installing.{IsChangeOf}
use Rattle.odb_tables.specs.Represented.RowIndex.{AreIndexesOf, AreReady, IsIndexOf, IsReady}
use Rattle.odb_tables.specs.declared.row_index.Side.TheVariants.{New, Old}
use Rattle.odb_tables.proofs.RowIndexes.{Mixed}
use Rattle.odb_tables.proofs.database.cut.Given as goal

abbrev pub invariant-loop-place : goal.invariant-loop-place
invariant-loop-place l = record {
  long : length l.indexes.items ≡ length l.initial.indexes.items;
  back : l.side ≡ New → (db : Db) → IsChangeOf db l.changes → AreIndexesOf db l.initial.indexes.items → AreIndexesOf db l.indexes.items;
  made : l.side ≡ Old → (db : Db) → IsChangeOf db l.changes → AreReady db l.changes l.initial.indexes.items → Mixed (IsReady db l.changes) (IsIndexOf (all_changed_by db l.changes)) l.place l.indexes.items;
}
