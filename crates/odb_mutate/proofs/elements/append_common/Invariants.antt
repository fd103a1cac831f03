use Rattle.std.proofs.Common.{◌≡◌, ◌++◌, map, filter}
use Rattle.odb_atoms.specs.Members.{has}
use Rattle.odb_atoms.specs.Represented.Atom.{atom_of}
use Rattle.odb_mutate.proofs.elements.append_common.Given as goal

abbrev pub invariant-loop-element : goal.invariant-loop-element
invariant-loop-element l =
    map atom_of l.list.items ++ map atom_of (filter (λ a. has l.fn.value (atom_of a)) l.element-iterator)
    ≡ map atom_of l.fn.list.items ++ map atom_of (filter (λ a. has l.fn.value (atom_of a)) l.fn.elements)
