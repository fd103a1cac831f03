use Rattle.std.proofs.Common.{◌≡◌}
use Rattle.odb_tables.specs.Represented.Installed.{replaced}
use Rattle.odb_tables.proofs.Installs.{walk}
use Rattle.odb_tables.proofs.table.Table.replace_old_rows.Given as goal

abbrev pub invariant-loop-row : goal.invariant-loop-row
invariant-loop-row l = walk replaced l.self l.row-iterator.rest.items ≡ walk replaced l.initial.self l.initial.row-iterator.rest.items
