use Rattle.std.proofs.Common.{◌≡◌, ◌++◌, flat_map, map, take}
use Rattle.odb_cond.specs.Represented.Clause.{selector_of}
use Rattle.odb_ops.specs.Execution.{distinct}
use Rattle.odb_ops.specs.Represented.Cells.{IsLentSetOf}
use Rattle.odb_ops.specs.Represented.Layout.{content, row_tokens}
use Rattle.odb_ops.proofs.select.put_distinct.Given as goal

abbrev pub invariant-loop-row : goal.invariant-loop-row
invariant-loop-row l =
    IsLentSetOf l.seen (map (content (map selector_of l.layout.columns.now)) (take l.row-index l.rows))
    × (l.out ≡ l.initial.out ++ flat_map (row_tokens l.layout.declared.now (map selector_of l.layout.columns.now)) (distinct (map (content (map selector_of l.layout.columns.now)) (take l.row-index l.rows))))
