use Rattle.std.proofs.Common.{subst}
use Rattle.serde_json.specs.View.{view}
use Rattle.odb_atoms.specs.Represented.Atom.{uuid_of}
use Rattle.odb_json.specs.Represented.Fault.{Gives}
use Rattle.odb_json.proofs.Shapes.{own_tagged}
use Rattle.odb_json.proofs.atom.read_own_uuid.Goals as goal

pub returns-in-None : goal.returns-in-None
returns-in-None c = subst (Gives uuid_of c.read_uuid.result) (own_tagged (view c.args.value.now) c.in-None.ensures) c.read_uuid.ensures
