use Rattle.std.proofs.Common.{subst, option_map}
use Rattle.serde_json.specs.View.{view}
use Rattle.odb_atoms.specs.Represented.Atom.{uuid_of}
use Rattle.odb_json.specs.Represented.Fault.{Gives}
use Rattle.odb_json.proofs.Shapes.{name_tagged, uuid_tagged}
use Rattle.odb_json.proofs.atom.read_uuid.Goals as goal

pub returns-in-Some : goal.returns-in-Some
returns-in-Some c = subst (Gives uuid_of c.read_uuid_content.result) (uuid_tagged (option_map (λ n. n.now) c.args.names) (view c.args.value.now) (view c.in-Some.content.now) c.in-Some.ensures) c.read_uuid_content.ensures

pub returns-in-Some-tagged : goal.returns-in-Some-tagged
returns-in-Some-tagged c = subst (Gives uuid_of c.read_name_content.result) (name_tagged (option_map (λ n. n.now) c.args.names) (view c.args.value.now) (view c.in-Some-tagged.content.now) c.in_default.ensures c.in-Some-tagged.ensures) c.read_name_content.ensures
