use Rattle.std.proofs.Common.{◌≡◌, ◌+◌, false, cond, length}
use Rattle.odb_service.specs.World.{retry_all}
use Rattle.odb_core.specs.Represented.Steps.{AreTried, by_service}
use Rattle.odb_core.proofs.upcoming.Upcoming.retry_all.Given as goal

abbrev pub invariant-loop-changed : goal.invariant-loop-changed
invariant-loop-changed l = (by_service retry_all l.initial.self.next ≡ by_service retry_all l.self.next) × (l.changed ≡ false → AreTried l.self.next) × (l.self.base ≡ l.initial.self.base)

abbrev pub decreases-loop-changed : goal.decreases-loop-changed
decreases-loop-changed l = cond l.changed 1 0 + length l.self.next.world.waiting
