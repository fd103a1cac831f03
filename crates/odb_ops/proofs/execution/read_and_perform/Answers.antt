use Rattle.serde_json.specs.View.{view}
use Rattle.odb_atoms.specs.Represented.Atom.{uuid_of}
use Rattle.odb_json.specs.Represented.Operation.{op_of}
use Rattle.odb_ops.specs.Represented.Context.{context_of}
use Rattle.odb_ops.proofs.Runs.{carried}
use Rattle.odb_schema.specs.Notation.{Names}
use Rattle.odb_ops.proofs.execution.read_and_perform.Goals as goal

pub returns-clause-ran : goal.returns-clause-ran
returns-clause-ran c = λ named h.
    let s = c.args.setting.now.schema.now in
    let op = op_of c.in_ok-op.op in
    let names : Names = c.args.setting.now.names.now in
    carried s (context_of c.args.setting.now.context.now) names (uuid_of c.args.uuid) c.args.draft.now c.perform.new.draft c.args.taken.now c.perform.new.taken (view c.args.operation.now) op named c.perform.result
    c.in_ok-op.ensures.reads c.in_ok-op.ensures.suits c.requires.typed h (c.perform.ensures.ran named h) c.perform.ensures.taken
