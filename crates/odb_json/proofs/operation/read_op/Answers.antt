use Rattle.serde_json.specs.View.{view}
use Rattle.odb_json.proofs.Suited.{suits_read}
use Rattle.odb_json.proofs.operation.read_op.Goals as goal

pub returns-clause-suits : goal.returns-clause-suits
returns-clause-suits c = suits_read c.args.schema.now c.args.names.now (view c.args.value.now) c.read_whole.result c.read_whole.ensures
