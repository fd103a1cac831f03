use Rattle.std.proofs.Common.{◌≡◌, drop}
use Rattle.odb_tables.specs.Represented.Installed.{each_row, put_in, taken_back}
use Rattle.odb_tables.proofs.Installs.{walk}
use Rattle.odb_tables.proofs.table.Table.put_in.Given as goal

abbrev pub invariant-loop-row : goal.invariant-loop-row
invariant-loop-row l = record {
  done : walk put_in l.self (drop l.row-index l.row-items) ≡ walk put_in l.initial.self l.row-items;
  only_new : each_row taken_back l.self l.change ≡ each_row taken_back l.initial.self l.change;
}
