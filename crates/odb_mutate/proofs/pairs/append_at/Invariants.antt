use Rattle.std.proofs.Common.{◌≡◌, ◌++◌, filter_map, map}
use Rattle.odb_atoms.specs.Represented.Atom.{atom_of}
use Rattle.odb_atoms.specs.Represented.Value.{pair_of}
use Rattle.odb_mutate.specs.Represented.Kinds.{pair_at}
use Rattle.odb_mutate.proofs.pairs.append_at.Given as goal

abbrev pub invariant-loop-key : goal.invariant-loop-key
invariant-loop-key l =
    map pair_of l.list.items ++ filter_map (pair_at l.fn.value) (map atom_of l.key-iterator)
    ≡ map pair_of l.fn.list.items ++ filter_map (pair_at l.fn.value) (map atom_of l.fn.keys)
