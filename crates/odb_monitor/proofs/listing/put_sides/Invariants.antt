use Rattle.std.proofs.Common.{◌≡◌, ◌++◌, flat_map, take}
use Rattle.odb_monitor.specs.Represented.Listing.{side_tokens}
use Rattle.odb_monitor.proofs.listing.put_sides.Given as goal

abbrev pub invariant-loop-row : goal.invariant-loop-row
invariant-loop-row l = l.out ≡ l.initial.out ++ flat_map (side_tokens l.layout l.comparison) (take l.row-index l.sides)
