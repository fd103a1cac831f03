use Rattle.std.proofs.Common.{◌≡◌, map}
use Rattle.std.specs.Arc.{arc_value}
use Rattle.std.specs.Map.Iter.{deref_pair}
use Rattle.odb_tables.specs.Represented.Keyed.{shown}
use Rattle.odb_tables.specs.Represented.Table.{listed}
use Rattle.odb_tables.proofs.table.Table.list.Given as goal

abbrev pub invariant-loop-key : goal.invariant-loop-key
invariant-loop-key l = map listed l.rows.items ≡ map (shown arc_value) (map deref_pair l.yielded)
