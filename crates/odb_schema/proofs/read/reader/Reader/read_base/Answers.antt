use Rattle.std.proofs.Common.{◌∙◌, ap, subst, sym, Ok}
use Rattle.serde_json.specs.View.{members_view, view}
use Rattle.odb_atoms.specs.Represented.Atom.{kind_in}
use Rattle.odb_atoms.specs.Represented.ColType.{base_of}
use Rattle.odb_schema.specs.Represented.Fault.{Reads}
use Rattle.odb_schema.specs.Represented.Reader.{known_to}
use Rattle.odb_schema.proofs.Parts.{base_named, base_members}
use Rattle.odb_schema.proofs.read.reader.Reader.read_base.Goals as goal

pub returns-in_ok-read_kind-in-Some : goal.returns-in_ok-read_kind-in-Some
returns-in_ok-read_kind-in-Some c = base_named (known_to c.args.self.now) (view c.args.value.now) c.in-Some.name.now (kind_in c.in_ok-read_kind-in-Some.field-0) c.in-Some.ensures c.in_ok-read_kind-in-Some.ensures ∙ ap Ok (sym c.plain.ensures)

pub returns-in_ok-read_object-in-None : goal.returns-in_ok-read_object-in-None
returns-in_ok-read_object-in-None c =
    subst (Reads base_of c.read_constraints.result)
    (base_members (known_to c.args.self.now) (view c.args.value.now) (members_view c.in_ok-read_object-in-None.field-0.now.entries) c.in-None.ensures c.in_ok-read_object-in-None.ensures)
    c.read_constraints.ensures
