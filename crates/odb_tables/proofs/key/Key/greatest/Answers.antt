use Rattle.odb_tables.proofs.Keys.{greatest-is}
use Rattle.odb_tables.proofs.key.Key.greatest.Goals as goal

pub returns : goal.returns
returns c = greatest-is
