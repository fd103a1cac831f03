use Rattle.odb_atoms.specs.Represented.Atom.{atom_of}
use Rattle.odb_atoms.proofs.Represented.Values.{one_pair_in}
use Rattle.odb_atoms.proofs.value.Value.one_pair.Goals as goal

pub returns : goal.returns
returns c = rw (c.of_pairs.ensures, c.in_ok-push.ensures.items, c.in_ok-pairs.ensures.items) (one_pair_in (atom_of c.args.key) (atom_of c.args.value))
