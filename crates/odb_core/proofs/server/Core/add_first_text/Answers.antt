use Rattle.std.proofs.Common.{sym, subst}
use Rattle.std.specs.Prelude.{IfSome}
use Rattle.odb_service.specs.Server.{Server}
use Rattle.odb_sessions.specs.FirstTexts.{IsFirstText}
use Rattle.odb_core.proofs.ValidSteps.{Whole}
use Rattle.odb_core.proofs.server.Core.add_first_text.Goals as goal

pub add_first_text-requires : goal.add_first_text-requires
add_first_text-requires c = subst (λ (v : Server). IfSome c.args.first (IsFirstText v.world.db)) (sym c.self.view_is) c.requires

pub invariant_of-self : goal.invariant_of-self
invariant_of-self c = let i = c.self.inside in subst (Whole i.served i.sessions i.waiting i.locks i.moment i.opened) (sym c.add_first_text.ensures) c.self.invariant
