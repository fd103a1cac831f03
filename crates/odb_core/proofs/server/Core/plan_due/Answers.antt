use Rattle.std.proofs.Common.{◌≡◌, [], sym, ap, subst, ◌∙◌}
use Rattle.std.proofs.lemmas.Result.{IfOk-weaker}
use Rattle.odb_service.specs.Server.{Server}
use Rattle.odb_service.specs.World.{retry_all, try_due}
use Rattle.odb_core.specs.Represented.Steps.{AreTried, by_service, let_wait}
use Rattle.odb_core.specs.Represented.Upcoming.{Upcoming}
use Rattle.odb_core.proofs.Upcomings.{led_on}
use Rattle.odb_core.proofs.server.Core.plan_due.Goals as goal

abbrev due : Server → Server
due x = by_service (λ h. try_due h x.world.waiting) (let_wait [] x)

pub returns-clause-plan : goal.returns-clause-plan
returns-clause-plan c =
    let v : Server = c.args.self.now in
    let t : Upcoming = c.retry_all.new.self in
    let same : t.next ≡ by_service retry_all (due v) = sym c.in_ok-retry_all.ensures.ok ∙ ap (by_service retry_all) (sym c.in_ok-try_due.ensures.next ∙ ap due c.in_ok-upcoming.ensures.next) in
    IfOk-weaker c.plan.result _ _ (λ p h. led_on v t.base t.next _ p (c.in_ok-retry_all.ensures.base ∙ c.in_ok-try_due.ensures.base ∙ c.in_ok-upcoming.ensures.base) same h) c.plan.ensures

pub returns-clause-tried : goal.returns-clause-tried
returns-clause-tried c =
    let v : Server = c.args.self.now in
    let t : Upcoming = c.retry_all.new.self in
    let same : t.next ≡ by_service retry_all (due v) = sym c.in_ok-retry_all.ensures.ok ∙ ap (by_service retry_all) (sym c.in_ok-try_due.ensures.next ∙ ap due c.in_ok-upcoming.ensures.next) in
    IfOk-weaker c.plan.result _ _ (λ p h. subst AreTried same c.in_ok-retry_all.ensures.tried) c.plan.ensures
