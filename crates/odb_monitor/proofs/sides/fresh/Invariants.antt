use Rattle.std.proofs.Common.{◌≡◌, map, take}
use Rattle.odb_monitor.specs.Represented.Candidates.{fresh_in}
use Rattle.odb_monitor.specs.Represented.Sides.{sides_in}
use Rattle.odb_tables.specs.Represented.Table.{listed}
use Rattle.odb_monitor.proofs.sides.fresh.Given as goal

abbrev pub invariant-loop-row : goal.invariant-loop-row
invariant-loop-row l = map sides_in l.all.items ≡ map fresh_in (map listed (take l.row-index l.rows))
