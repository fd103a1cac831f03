use Rattle.odb_core.proofs.WaitingCounts.{copied}
use Rattle.odb_core.proofs.counts.Counts.try_copy.Goals as goal

pub returns : goal.returns
returns c = copied c.args.self.now.counts c.in_ok-clone.field-0 c.in_ok-clone.ensures.cases
