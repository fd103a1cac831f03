use Rattle.std.proofs.Common.{◌≡◌, filter_map, map, take}
use Rattle.odb_monitor.specs.Represented.Line.{line_in}
use Rattle.odb_monitor.specs.Represented.Sides.{line_at, sides_in}
use Rattle.odb_monitor.proofs.part.lines_of.Given as goal

abbrev pub invariant-loop-row : goal.invariant-loop-row
invariant-loop-row l = map (line_in l.comparison.request.now.shape.columns) l.lines.items ≡ filter_map (line_at l.comparison.first l.comparison.told l.comparison.request.now) (map sides_in (take l.row-index l.sides))
