use Rattle.std.proofs.Common.{◌≡◌, drop}
use Rattle.odb_tables.specs.Represented.Installed.{taken_back}
use Rattle.odb_tables.proofs.Installs.{walk}
use Rattle.odb_tables.proofs.table.Table.take_back.Given as goal

abbrev pub invariant-loop-row : goal.invariant-loop-row
invariant-loop-row l = walk taken_back l.self (drop l.row-index l.row-items) ≡ walk taken_back l.initial.self l.row-items
