use Rattle.std.proofs.Common.{◌≡◌, ◌++◌, ◌||◌, filter, map, not}
use Rattle.odb_atoms.specs.Represented.Atom.{atom_of}
use Rattle.odb_atoms.specs.Represented.Value.{pair_of}
use Rattle.odb_integrity.specs.Settlement.{is_stale}
use Rattle.odb_integrity.proofs.pruning.pruned_pairs.Given as goal

abbrev pub invariant-loop-pair : goal.invariant-loop-pair
invariant-loop-pair l =
    map pair_of l.pruned.items ++ map pair_of (filter (λ p. not (is_stale l.draft.now l.keys (atom_of p.0) || is_stale l.draft.now l.values (atom_of p.1))) l.pair-iterator) ≡ map pair_of (filter (λ p. not (is_stale l.draft.now l.keys (atom_of p.0) || is_stale l.draft.now l.values (atom_of p.1))) l.pairs)
