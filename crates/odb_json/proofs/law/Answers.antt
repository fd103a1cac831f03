use Rattle.odb_json.proofs.Written.{reads_back}
use Rattle.odb_json.proofs.law.Goals as goal

pub returns : goal.returns
returns c = record { read_back = reads_back }
