use Rattle.std.proofs.Common.{rules, ◌≡◌, ◌∷◌, [], true, false, codes}
use Rattle.odb_atoms.specs.Represented.Atom.{uuid_of}
use Rattle.odb_ops.specs.Execution as model
use Rattle.odb_ops.specs.Represented.Draft.{begun}
use Rattle.odb_ops.proofs.Drafts.{insert_row_is}
use Rattle.odb_schema.specs.Json.{object_of}
use Rattle.odb_schema.specs.Notation.{write_uuid}
use Rattle.odb_tables.specs.Draft.{with_row}
use Rattle.odb_ops.proofs.insert.insert.Goals as goal

pub returns-clause-row : goal.returns-clause-row
returns-clause-row c =
    let cs = c.args.target.now.columns.now in
    let d = c.args.draft.now in
    let t = c.args.target.now.table in
    let u = uuid_of c.args.uuid in
    let r = c.in_ok-row.row in
    let unused : model.has_used (begun d) t u ≡ false = search rules in
    let is : r ≡ model.new_row cs c.args.given.items = search rules in
    let admitted : model.all_admit cs r.columns ≡ true = search rules in
    let put : c.put.new.self ≡ with_row t u r d = search rules in
    let made : c.in_ok-inserted.field-0 ≡ object_of ((codes "uuid", write_uuid u) ∷ []) = search rules in
    insert_row_is cs t u c.args.given.items d c.put.new.self r c.in_ok-inserted.field-0 unused is admitted put made
