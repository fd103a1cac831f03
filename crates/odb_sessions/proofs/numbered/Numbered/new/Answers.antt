use Rattle.odb_sessions.proofs.Keyed.{none_under}
use Rattle.odb_sessions.proofs.numbered.Numbered.new.Goals as goal

pub returns : goal.returns
returns c = none_under c.new.result.entries c.new-2.result.slots c.new.ensures.empty
