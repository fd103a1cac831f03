use Rattle.std.proofs.Common.{◌≡◌, map, take}
use Rattle.odb_monitor.specs.Represented.Candidates.{changed_in}
use Rattle.odb_monitor.specs.Represented.Sides.{sides_in}
use Rattle.odb_monitor.proofs.sides.changed.Given as goal

abbrev pub invariant-loop-change : goal.invariant-loop-change
invariant-loop-change l = map sides_in l.all.items ≡ map (changed_in l.rows) (take l.change-index l.changes)
