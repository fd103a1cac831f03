use Rattle.std.proofs.Common.{◌≡◌, map}
use Rattle.std.specs.Map.Iter.{deref}
use Rattle.odb_tables.specs.Matching.{selected}
use Rattle.odb_tables.specs.Represented.Table.{entries_at, listed}
use Rattle.odb_tables.proofs.table.Table.select_among.Given as goal

abbrev pub invariant-loop-key : goal.invariant-loop-key
invariant-loop-key l = map listed l.rows.items ≡ entries_at (selected l.filter l.self) (map deref l.yielded)
