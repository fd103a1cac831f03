use Rattle.std.proofs.Common.{rules, ◌≡◌, true, [], Ok, is_some, subst, ap, ◌∙◌}
use Rattle.odb_atoms.specs.FinMap.{get}
use Rattle.odb_service.specs.Server.{Server}
use Rattle.odb_core.proofs.ServerSteps.{Served, closes}
use Rattle.odb_core.proofs.server.Core.close.Goals as goal

pub returns-clause-ok : goal.returns-clause-ok
returns-clause-ok c =
    let n = c.args.session in
    let inside : is_some (get c.self.inside.sessions.sessions n) ≡ true = search rules in
    let there : is_some (get c.args.self.now.world.sessions n) ≡ true = subst (λ (v : Server). is_some (get v.world.sessions n) ≡ true) c.self.view_is inside in
    closes c.args.self.now n there ∙ ap (λ (u : Server). let r : Served = Ok (u, []) in r) c.in_ok-end_session.ensures.ok
