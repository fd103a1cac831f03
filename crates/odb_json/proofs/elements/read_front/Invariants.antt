use Rattle.std.proofs.Common.{map, option_map}
use Rattle.odb_atoms.specs.Represented.Atom.{atom_of, kind_in}
use Rattle.odb_json.specs.Represented.Parts.{atom_front}
use Rattle.odb_json.proofs.Fronts.{Stands}
use Rattle.odb_json.proofs.elements.read_front.Given as goal

abbrev pub invariant-loop-item : goal.invariant-loop-item
invariant-loop-item l = Stands (atom_front (option_map (λ n. n.now) l.names) (kind_in l.kind)) l.items l.item-index (map atom_of l.elements.items)
