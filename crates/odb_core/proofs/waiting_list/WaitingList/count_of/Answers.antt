use Rattle.std.proofs.Common.{ap, ◌∙◌}
use Rattle.odb_core.proofs.WaitingCounts.{of_session}
use Rattle.odb_core.proofs.waiting_list.WaitingList.count_of.Goals as goal

pub returns : goal.returns
returns c = c.get.ensures ∙ c.self.invariant.0 c.args.session ∙ ap (of_session c.args.session) c.self.view_is
