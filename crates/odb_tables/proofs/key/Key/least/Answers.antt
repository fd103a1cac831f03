use Rattle.odb_tables.proofs.Keys.{least-is}
use Rattle.odb_tables.proofs.key.Key.least.Goals as goal

pub returns : goal.returns
returns c = least-is
