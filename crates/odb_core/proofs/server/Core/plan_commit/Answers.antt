use Rattle.std.proofs.Common.{◌≡◌, Some, sym, ap, subst, ◌∙◌}
use Rattle.std.proofs.lemmas.Result.{IfOk-weaker}
use Rattle.odb_service.specs.Server.{Server}
use Rattle.odb_service.specs.World.{retry_all}
use Rattle.odb_tables.specs.Change.{all_changed_by}
use Rattle.odb_core.specs.Represented.Steps.{AreTried, by_service}
use Rattle.odb_core.specs.Represented.Upcoming.{Upcoming}
use Rattle.odb_core.specs.Represented.Waiting.{ends}
use Rattle.odb_core.proofs.Upcomings.{led_on}
use Rattle.odb_core.proofs.server.Core.plan_commit.Goals as goal

pub returns-clause-plan : goal.returns-clause-plan
returns-clause-plan c =
    let v : Server = c.args.self.now in
    let u : Upcoming = c.in_ok-upcoming.upcoming in
    let k : Upcoming = c.commit.new.self in
    let t : Upcoming = c.retry_all.new.self in
    let f : Server → Server = λ x. by_service (ends c.args.asked.now c.args.results (Some (all_changed_by x.world.db c.args.change))) x in
    let same : t.next ≡ by_service retry_all (f v) = sym c.in_ok-retry_all.ensures.ok ∙ ap (by_service retry_all) (sym c.in_ok-commit.ensures.ok ∙ ap f c.in_ok-upcoming.ensures.next) in
    IfOk-weaker c.plan.result _ _ (λ p h. led_on v t.base t.next _ p (c.in_ok-retry_all.ensures.base ∙ c.in_ok-commit.ensures.base ∙ c.in_ok-upcoming.ensures.base) same h) c.plan.ensures

pub returns-clause-tried : goal.returns-clause-tried
returns-clause-tried c =
    let v : Server = c.args.self.now in
    let t : Upcoming = c.retry_all.new.self in
    let f : Server → Server = λ x. by_service (ends c.args.asked.now c.args.results (Some (all_changed_by x.world.db c.args.change))) x in
    let same : t.next ≡ by_service retry_all (f v) = sym c.in_ok-retry_all.ensures.ok ∙ ap (by_service retry_all) (sym c.in_ok-commit.ensures.ok ∙ ap f c.in_ok-upcoming.ensures.next) in
    IfOk-weaker c.plan.result _ _ (λ p h. subst AreTried same c.in_ok-retry_all.ensures.tried) c.plan.ensures
