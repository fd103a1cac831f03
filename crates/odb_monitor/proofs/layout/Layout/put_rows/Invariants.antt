use Rattle.std.proofs.Common.{◌≡◌, ◌++◌, flat_map, map, take}
use Rattle.odb_monitor.specs.Represented.Layout.{row_tokens}
use Rattle.odb_monitor.specs.Represented.Line.{line_in}
use Rattle.odb_monitor.proofs.layout.Layout.put_rows.Given as goal

abbrev pub invariant-loop-line : goal.invariant-loop-line
invariant-loop-line l = l.out ≡ l.initial.out ++ flat_map (row_tokens l.self) (map (line_in l.self.columns) (take l.line-index l.lines))
