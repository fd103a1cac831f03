use Rattle.std.proofs.Common.{◌≡◌, ◌++◌, flat_map, map, take}
use Rattle.odb_cond.specs.Represented.Clause.{selector_of}
use Rattle.odb_ops.specs.Represented.Layout.{entry_tokens}
use Rattle.odb_tables.specs.Represented.Table.{listed}
use Rattle.odb_ops.proofs.select.put_each.Given as goal

abbrev pub invariant-loop-row : goal.invariant-loop-row
invariant-loop-row l = l.out ≡ l.initial.out ++ flat_map (entry_tokens l.layout.declared.now (map selector_of l.layout.columns.now)) (map listed (take l.row-index l.rows))
