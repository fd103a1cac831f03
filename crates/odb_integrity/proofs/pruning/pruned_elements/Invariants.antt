use Rattle.std.proofs.Common.{◌≡◌, ◌++◌, filter, map, not}
use Rattle.odb_atoms.specs.Represented.Atom.{atom_of}
use Rattle.odb_integrity.specs.Settlement.{is_stale}
use Rattle.odb_integrity.proofs.pruning.pruned_elements.Given as goal

abbrev pub invariant-loop-atom : goal.invariant-loop-atom
invariant-loop-atom l = map atom_of l.pruned.items ++ map atom_of (filter (λ a. not (is_stale l.draft.now l.target (atom_of a))) l.atom-iterator) ≡ map atom_of (filter (λ a. not (is_stale l.draft.now l.target (atom_of a))) l.elements)
