use Rattle.std.proofs.Common.{◌≡◌, map, take}
use Rattle.odb_ops.proofs.mutate.places_of.Given as goal

abbrev pub invariant-loop-mutation : goal.invariant-loop-mutation
invariant-loop-mutation l = l.places.items ≡ map (λ m. m.column) (take l.mutation-index l.mutations)
