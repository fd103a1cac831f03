use Rattle.std.proofs.Common.{◌≡◌, ◌++◌, map, filter, not}
use Rattle.odb_atoms.specs.Members.{has}
use Rattle.odb_atoms.specs.Represented.Atom.{atom_of}
use Rattle.odb_atoms.specs.Represented.Value.{pair_of}
use Rattle.odb_mutate.proofs.pairs.append_others.Given as goal

abbrev pub invariant-loop-pair : goal.invariant-loop-pair
invariant-loop-pair l =
    map pair_of l.list.items ++ map pair_of (filter (λ p. not (has l.fn.value (atom_of p.0))) l.pair-iterator)
    ≡ map pair_of l.fn.list.items ++ map pair_of (filter (λ p. not (has l.fn.value (atom_of p.0))) l.fn.pairs)
