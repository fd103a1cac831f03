use Rattle.std.proofs.Common.{◌≡◌, ◌+◌, length}
use Rattle.odb_tables.specs.Represented.Installed.{each_table, replaced}
use Rattle.odb_tables.proofs.Installs.{each_at}
use Rattle.odb_tables.proofs.database.replace_old_rows.Given as goal

abbrev pub invariant-loop-change : goal.invariant-loop-change
invariant-loop-change l = record {
  long : l.place + length l.change-iterator.rest.items ≡ length l.tables.items;
  done : each_at replaced l.place l.tables.items l.change-iterator.rest.items ≡ each_table replaced l.initial.tables.items l.initial.change-iterator.rest.items;
}
