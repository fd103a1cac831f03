use Rattle.std.proofs.Common.{◌≡◌, ◌++◌, flat_map, map}
use Rattle.odb_atoms.specs.Represented.Atom.{atom_of}
use Rattle.odb_print.specs.Tokens.{tokens_of}
use Rattle.odb_schema.specs.Notation.{write_atom}
use Rattle.odb_print.proofs.value.put_atoms.Given as goal

abbrev pub invariant-loop-atom : goal.invariant-loop-atom
invariant-loop-atom l = l.out ++ flat_map (λ a. tokens_of (write_atom a)) (map atom_of l.atom-iterator) ≡ l.fn.out ++ flat_map (λ a. tokens_of (write_atom a)) (map atom_of l.fn.atoms)
