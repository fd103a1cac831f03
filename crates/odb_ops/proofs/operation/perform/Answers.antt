use Rattle.std.proofs.Common.{ap, subst, sym}
use Rattle.odb_atoms.specs.Represented.Atom.{uuid_of}
use Rattle.odb_json.specs.Operation as json
use Rattle.odb_json.specs.Represented.Operation.{op_of}
use Rattle.odb_ops.specs.Execution as model
use Rattle.odb_ops.specs.Represented.Context.{context_of}
use Rattle.odb_ops.specs.Represented.Draft.{naming}
use Rattle.odb_ops.specs.Represented.Stop.{Performs, named_after}
use Rattle.odb_tables.specs.Draft.{Draft}
use Rattle.odb_ops.proofs.operation.perform.Goals as goal

pub returns-in-Wait-clause-ran : goal.returns-in-Wait-clause-ran
returns-in-Wait-clause-ran c = λ named h.
    let s = c.args.setting.now.schema.now in
    let ctx = context_of c.args.setting.now.context.now in
    let u = uuid_of c.args.uuid in
    let d : Draft = c.args.draft.now in
    subst (λ (o : json.Op). Performs (λ v. (naming (named_after o named) d, v)) c.wait.result (model.perform s ctx u (naming named d) o)) (sym (ap op_of c.in-Wait.is)) (c.wait.ensures u named)
