use Rattle.std.proofs.Common.{sym}
use Rattle.odb_locks.proofs.Tables.{freed, nothing_released, released}
use Rattle.odb_locks.proofs.lock_table.LockTable.release.Goals as goal

pub returns-in_default : goal.returns-in_default
returns-in_default c = nothing_released _ _ c.self.inside.locks c.get_mut.follows.lender-at-none _ c.self.view_is c.in_default.ensures.value c.get_mut.follows.holds-at-none

pub returns-then-is_free : goal.returns-then-is_free
returns-then-is_free c = freed _ _ c.self.inside.locks (c.get_mut.follows.lender c.release.new.self) c.remove.new.self _ _ _ c.self.view_is c.in-Some.ensures.value (c.get_mut.follows.holds c.release.new.self).3 c.release.ensures (sym c.if-is_free.ensures) c.remove.ensures.updates

pub returns-else-is_free : goal.returns-else-is_free
returns-else-is_free c = released _ _ c.self.inside.locks (c.get_mut.follows.lender c.release.new.self) _ _ _ c.self.view_is c.in-Some.ensures.value (c.get_mut.follows.holds c.release.new.self).3 c.release.ensures (sym c.if-is_free.ensures)
