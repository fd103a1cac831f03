use Rattle.odb_atoms.specs.Represented.Atom.{atom_of}
use Rattle.odb_atoms.proofs.Represented.Values.{one_in}
use Rattle.odb_atoms.proofs.value.Value.one.Goals as goal

pub returns : goal.returns
returns c = one_in (atom_of c.args.atom)
