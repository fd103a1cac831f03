use Rattle.odb_core.proofs.WaitingCounts.{none_left}
use Rattle.odb_core.proofs.counts.Counts.forget.Goals as goal

pub returns : goal.returns
returns c = none_left c.args.session c.args.self.now.counts c.remove.new.self c.remove.ensures.updates
