use Rattle.std.proofs.Common.{◌≡◌, ◌++◌, map, filter}
use Rattle.odb_atoms.specs.Represented.Value.{pair_of}
use Rattle.odb_mutate.specs.Represented.Kinds.{has_at}
use Rattle.odb_mutate.proofs.pairs.append_common.Given as goal

abbrev pub invariant-loop-pair : goal.invariant-loop-pair
invariant-loop-pair l =
    map pair_of l.list.items ++ map pair_of (filter (λ p. has_at l.fn.value (pair_of p)) l.pair-iterator)
    ≡ map pair_of l.fn.list.items ++ map pair_of (filter (λ p. has_at l.fn.value (pair_of p)) l.fn.pairs)
