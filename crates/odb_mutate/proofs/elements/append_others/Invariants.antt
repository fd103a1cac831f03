use Rattle.std.proofs.Common.{◌≡◌, ◌++◌, map, filter, not}
use Rattle.odb_atoms.specs.Members.{has}
use Rattle.odb_atoms.specs.Represented.Atom.{atom_of}
use Rattle.odb_mutate.proofs.elements.append_others.Given as goal

abbrev pub invariant-loop-element : goal.invariant-loop-element
invariant-loop-element l =
    map atom_of l.list.items ++ map atom_of (filter (λ a. not (has l.fn.value (atom_of a))) l.element-iterator)
    ≡ map atom_of l.fn.list.items ++ map atom_of (filter (λ a. not (has l.fn.value (atom_of a))) l.fn.elements)
