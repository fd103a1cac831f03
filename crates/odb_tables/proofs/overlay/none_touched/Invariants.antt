use Rattle.std.proofs.Common.{◌≡◌, replicate}
use Rattle.odb_atoms.specs.FinMap as finite
use Rattle.odb_tables.proofs.overlay.none_touched.Given as goal

abbrev pub invariant-loop : goal.invariant-loop
invariant-loop l = l.overlays.items ≡ replicate l.counter finite.empty
