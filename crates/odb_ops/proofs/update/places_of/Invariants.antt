use Rattle.std.proofs.Common.{◌≡◌, map, take}
use Rattle.odb_ops.proofs.update.places_of.Given as goal

abbrev pub invariant-loop-cell : goal.invariant-loop-cell
invariant-loop-cell l = l.places.items ≡ map (λ cell. cell.0) (take l.cell-index l.given)
