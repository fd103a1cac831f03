use Rattle.std.proofs.Common.{◌≡◌}
use Rattle.odb_service.specs.World.{try_due}
use Rattle.odb_core.specs.Stuck.{AreStuck}
use Rattle.odb_core.specs.Represented.Steps.{by_service}
use Rattle.odb_core.proofs.upcoming.Upcoming.try_due.Given as goal

abbrev pub invariant-loop-waiting : goal.invariant-loop-waiting
invariant-loop-waiting l = (by_service (λ h. try_due h l.initial.waiting-iterator.rest.items) l.initial.self.next ≡ by_service (λ h. try_due h l.waiting-iterator.rest.items) l.self.next) × (l.self.base ≡ l.initial.self.base) × AreStuck l.initial.self.next.schema l.initial.self.base.world.db l.waiting-iterator.rest.items
