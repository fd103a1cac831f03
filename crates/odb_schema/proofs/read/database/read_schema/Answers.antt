use Rattle.std.proofs.Common.{subst, sym}
use Rattle.std.proofs.lemmas.Result.{err_from_is_err_and}
use Rattle.serde_json.specs.View.{members_view, view}
use Rattle.odb_schema.specs.SchemaText.{read_object, read_schema}
use Rattle.odb_schema.specs.Represented.Fault.{Reads}
use Rattle.odb_schema.proofs.Faults.{given_on}
use Rattle.odb_schema.proofs.Parts.{schema_members, schema_no_object, schema_too_large}
use Rattle.odb_schema.proofs.read.database.read_schema.Goals as goal

pub returns-then-is_too_large : goal.returns-then-is_too_large
returns-then-is_too_large c = schema_too_large (view c.args.value.now) (sym c.if-is_too_large.ensures)

pub returns-in_err-read_object : goal.returns-in_err-read_object
returns-in_err-read_object c =
    let p = err_from_is_err_and c.from_residual.result c.from_residual.ensures.1 in
    rw (p.1, p.2)
    (given_on c.in_err-read_object.field-0.0 (read_object (view c.args.value.now)) (read_schema (view c.args.value.now)) (λ f is. schema_no_object (view c.args.value.now) f (sym c.if-is_too_large.ensures) is) c.in_err-read_object.ensures)

pub returns : goal.returns
returns c =
    subst (Reads (λ schema. schema) c.read_members.result)
    (schema_members (view c.args.value.now) (members_view c.in_ok-read_object.field-0.now.entries) (sym c.if-is_too_large.ensures) c.in_ok-read_object.ensures)
    c.read_members.ensures
