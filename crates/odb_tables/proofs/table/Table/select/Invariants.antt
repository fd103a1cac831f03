use Rattle.std.proofs.Common.{◌≡◌, filter, map}
use Rattle.std.specs.Arc.{arc_value}
use Rattle.std.specs.Map.Iter.{deref_pair}
use Rattle.odb_tables.specs.Represented.Keyed.{shown}
use Rattle.odb_tables.specs.Represented.Table.{listed}
use Rattle.odb_tables.proofs.Selected.{passes}
use Rattle.odb_tables.proofs.table.Table.select.Given as goal

abbrev pub invariant-loop-key : goal.invariant-loop-key
invariant-loop-key g l = map listed l.rows.items ≡ filter (passes (g.T.Test.passes l.test)) (map (shown arc_value) (map deref_pair l.yielded))
