use Rattle.std.proofs.Common.{sym, subst, arith}
use Rattle.odb_core.proofs.ValidSteps.{Whole, whole_opened}
use Rattle.odb_core.proofs.server.Core.add_session.Goals as goal

pub open-requires : goal.open-requires
open-requires c = c.self.invariant.1.1 c.self.inside.opened (omega arith)

pub invariant_of-self : goal.invariant_of-self
invariant_of-self c = let i = c.self.inside in subst (Whole i.served i.sessions i.waiting i.locks i.moment i.opened) (sym c.in_err-open.ensures.err) c.self.invariant

pub invariant_of-self-2 : goal.invariant_of-self-2
invariant_of-self-2 c = let i = c.self.inside in whole_opened i.served i.sessions i.waiting i.locks i.moment i.opened c.open.new.self c.in_ok-open.ensures.ok c.self.invariant
