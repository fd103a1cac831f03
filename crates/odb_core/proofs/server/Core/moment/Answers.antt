use Rattle.std.proofs.Common.{sym, ap, ◌∙◌}
use Rattle.odb_service.specs.Server.{Server}
use Rattle.odb_service.specs.World.{untried}
use Rattle.odb_core.proofs.server.Core.moment.Goals as goal

pub returns-clause-tried : goal.returns-clause-tried
returns-clause-tried c = λ h. ap (λ (u : Server). untried h u.world) (sym c.self.view_is) ∙ c.self.invariant.1.0 h
