use Rattle.std.proofs.Common.{◌≡◌}
use Rattle.odb_core.specs.Stuck.{AreStuck}
use Rattle.odb_core.specs.Represented.Retrying.{IsRetrying}
use Rattle.odb_core.proofs.upcoming.Upcoming.retry_until_commit.Given as goal

abbrev pub invariant-loop-waiting : goal.invariant-loop-waiting
invariant-loop-waiting l = IsRetrying l.fn.self.next l.self.next l.commits l.waiting-iterator.rest.items × (l.self.base ≡ l.fn.self.base) × AreStuck l.fn.self.next.schema l.fn.self.base.world.db l.waiting-iterator.rest.items
