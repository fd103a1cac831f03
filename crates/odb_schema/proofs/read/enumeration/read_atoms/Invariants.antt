use Rattle.std.proofs.Common.{◌≡◌, take, map, Ok}
use Rattle.serde_json.specs.View.{items_view}
use Rattle.odb_atoms.specs.Represented.Atom.{atom_of, kind_in}
use Rattle.odb_schema.specs.Represented.Parts.{atoms_in}
use Rattle.odb_schema.proofs.read.enumeration.read_atoms.Given as goal

abbrev pub invariant-loop-item : goal.invariant-loop-item
invariant-loop-item l = atoms_in (kind_in l.kind) (items_view (take l.item-index l.items)) ≡ Ok (map atom_of l.atoms.items)
