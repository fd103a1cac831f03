use Rattle.std.proofs.Common.{◌≡◌, map}
use Rattle.odb_atoms.specs.Represented.Atom.{atom_of}
use Rattle.odb_tables.specs.Represented.Digest.{after_atoms}
use Rattle.odb_tables.proofs.digest.feed_elements.Given as goal

abbrev pub invariant-loop-element : goal.invariant-loop-element
invariant-loop-element l = after_atoms l.state (map atom_of l.element-iterator) ≡ after_atoms l.initial.state (map atom_of l.elements)
