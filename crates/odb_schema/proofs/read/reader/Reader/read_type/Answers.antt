use Rattle.std.proofs.Common.{◌∙◌, ap, subst, sym, Ok}
use Rattle.serde_json.specs.View.{members_view, view}
use Rattle.odb_atoms.specs.Represented.Atom.{kind_in}
use Rattle.odb_atoms.specs.Represented.ColType.{type_of}
use Rattle.odb_schema.specs.Represented.Fault.{Reads}
use Rattle.odb_schema.specs.Represented.Reader.{known_to}
use Rattle.odb_schema.proofs.Parts.{type_named, type_members}
use Rattle.odb_schema.proofs.read.reader.Reader.read_type.Goals as goal

pub returns-in_ok-read_kind-in-Some : goal.returns-in_ok-read_kind-in-Some
returns-in_ok-read_kind-in-Some c = type_named (known_to c.args.self.now) (view c.args.value.now) c.in-Some.name.now (kind_in c.in_ok-read_kind-in-Some.field-0) c.in-Some.ensures c.in_ok-read_kind-in-Some.ensures ∙ ap Ok (sym c.scalar.ensures)

pub returns-in_ok-read_object-in-None : goal.returns-in_ok-read_object-in-None
returns-in_ok-read_object-in-None c =
    subst (Reads type_of c.read_type_members.result)
    (type_members (known_to c.args.self.now) (view c.args.value.now) (members_view c.in_ok-read_object-in-None.field-0.now.entries) c.in-None.ensures c.in_ok-read_object-in-None.ensures)
    c.read_type_members.ensures
