use Rattle.std.proofs.Common.{◌≡◌, ◌++◌, filter_map, map, Some}
use Rattle.odb_atoms.specs.Represented.Atom.{atom_of}
use Rattle.odb_integrity.specs.Settlement.{referent}
use Rattle.odb_integrity.proofs.references.append_elements.Given as goal

abbrev pub invariant-loop-atom : goal.invariant-loop-atom
invariant-loop-atom l = l.rows.items ++ filter_map (referent (Some l.table)) (map atom_of l.atom-iterator) ≡ l.fn.rows.items ++ filter_map (referent (Some l.table)) (map atom_of l.elements)
