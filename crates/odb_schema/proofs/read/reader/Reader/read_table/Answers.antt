use Rattle.std.proofs.Common.{subst, sym}
use Rattle.serde_json.specs.View.{members_view, view}
use Rattle.odb_schema.specs.Represented.Fault.{Reads}
use Rattle.odb_schema.specs.Represented.Reader.{known_to}
use Rattle.odb_schema.proofs.Parts.{table_members}
use Rattle.odb_schema.proofs.read.reader.Reader.read_table.Goals as goal

pub returns : goal.returns
returns c =
    subst (Reads (λ table. table) c.table_of.result)
    (table_members (known_to c.args.self.now) c.args.name.now (view c.args.value.now) (members_view c.in_ok-read_object.field-0.now.entries) (sym c.if-not-is_name.ensures) c.in_ok-read_object.ensures)
    c.table_of.ensures
