use Rattle.std.proofs.Common.{rules, ◌≡◌, List, ◌∷◌, refl, sym, ap, subst}
use Rattle.odb_schema.specs.Schema.{Schema}
use Rattle.odb_service.specs.Server.{Server}
use Rattle.odb_service.specs.World.{Waiting}
use Rattle.odb_core.specs.Represented.Upcoming.{Upcoming}
use Rattle.odb_core.specs.Stuck.{AreStuck, IsStuckIf}
use Rattle.odb_core.proofs.upcoming.Upcoming.try_due.Goals as goal

pub loop-waiting-init : goal.loop-waiting-init
loop-waiting-init c =
    let v : Server = c.args.self.now.next in
    let b : Server = c.args.self.now.base in
    let u : Upcoming = c.take_waiting-earlier.new.self in
    let rest : List Waiting = c.into_iter-waiting-iterator.result.rest.items in
    let all : rest ≡ c.take_waiting-earlier.result.items = search rules in
    let stuck : AreStuck v.schema b.world.db rest = subst (AreStuck v.schema b.world.db) (sym all) c.take_waiting-earlier.ensures.stuck in
    let there : AreStuck u.next.schema b.world.db rest = subst (λ (s : Schema). AreStuck s b.world.db rest) (sym (ap (λ (x : Server). x.schema) c.take_waiting-earlier.ensures.none)) stuck in
    (refl, refl, subst (λ (x : Server). AreStuck u.next.schema x.world.db rest) (sym c.take_waiting-earlier.ensures.base) there)

pub try_if_due-requires : goal.try_if_due-requires
try_if_due-requires c =
    let u : Upcoming = c.take_waiting-earlier.new.self in
    let p : Waiting = c.in-Some.waiting in
    let step : c.loop-waiting.waiting-iterator.rest.items ≡ p ∷ c.next.new.self.rest.items = search rules in
    let one : IsStuckIf u.next.schema u.base.world.db p = (subst (AreStuck u.next.schema u.base.world.db) step c.loop-waiting.invariant.2).0 in
    subst (λ (s : Schema). IsStuckIf s c.loop-waiting.self.base.world.db p) (ap (λ (x : Server). x.schema) c.loop-waiting.invariant.0)
    (subst (λ (x : Server). IsStuckIf u.next.schema x.world.db p) (sym c.loop-waiting.invariant.1) one)
