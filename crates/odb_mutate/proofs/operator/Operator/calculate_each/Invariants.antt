use Rattle.std.proofs.Common.{◌≡◌, map, IsTrue}
use Rattle.odb_atoms.specs.Atom.{integers}
use Rattle.odb_atoms.specs.ColType.{is_a}
use Rattle.odb_atoms.specs.First.{each}
use Rattle.odb_atoms.specs.Represented.Atom.{atom_of}
use Rattle.odb_atoms.specs.Represented.Value.{each_element}
use Rattle.odb_mutate.specs.Mutation.{calculate_atom}
use Rattle.odb_mutate.specs.Represented.Mutation.{operator_of}
use Rattle.odb_mutate.proofs.Each.{after}
use Rattle.odb_mutate.proofs.operator.Operator.calculate_each.Given as goal

abbrev pub invariant-loop-element : goal.invariant-loop-element
invariant-loop-element l =
    record {
      rest : IsTrue (each_element (is_a integers) l.element-iterator);
      integers : IsTrue (each_element (is_a integers) l.results.items);
      results : after (map atom_of l.results.items) (each (λ x. calculate_atom (operator_of l.fn.self) x (atom_of l.fn.operand)) (map atom_of l.element-iterator)) ≡ each (λ x. calculate_atom (operator_of l.fn.self) x (atom_of l.fn.operand)) (map atom_of l.fn.elements);
    }
