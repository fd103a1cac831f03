use Rattle.std.proofs.Common.{sym, subst}
use Rattle.odb_core.proofs.ValidSteps.{Whole}
use Rattle.odb_core.proofs.server.Core.shorten_owed.Goals as goal

pub invariant_of-self : goal.invariant_of-self
invariant_of-self c = let i = c.self.inside in subst (Whole i.served i.sessions i.waiting i.locks i.moment i.opened) (sym c.forget_resting.ensures.same) c.self.invariant
