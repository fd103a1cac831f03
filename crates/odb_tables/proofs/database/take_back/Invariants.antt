use Rattle.std.proofs.Common.{◌≡◌, length, drop}
use Rattle.odb_tables.specs.Represented.Installed.{each_table, taken_back}
use Rattle.odb_tables.proofs.Installs.{each_at}
use Rattle.odb_tables.proofs.database.take_back.Given as goal

abbrev pub invariant-loop-place : goal.invariant-loop-place
invariant-loop-place l = record {
  long : length l.tables.items ≡ length l.initial.tables.items;
  done : each_at taken_back l.place l.tables.items (drop l.place l.changes) ≡ each_table taken_back l.initial.tables.items l.changes;
}
