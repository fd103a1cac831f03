use Rattle.std.proofs.Common.{◌≡◌, ◌++◌, map}
use Rattle.serde_json.specs.View.{view}
use Rattle.odb_atoms.specs.Represented.Atom.{atom_of}
use Rattle.odb_schema.specs.Notation.{write_atom}
use Rattle.odb_schema.proofs.notation.write_all.Given as goal

abbrev pub invariant-loop-atom : goal.invariant-loop-atom
invariant-loop-atom l = map view l.items.items ++ map write_atom (map atom_of l.atom-iterator) ≡ map write_atom (map atom_of l.atoms)
