use Rattle.odb_interest.proofs.Unselected.{unhit_stays}
use Rattle.odb_interest.proofs.law.Goals as goal

pub returns : goal.returns
returns c = unhit_stays
