use Rattle.std.proofs.Common.{sym, ap, ◌∙◌}
use Rattle.odb_locks.specs.Locks.{Locks, has_claim, lock_of}
use Rattle.odb_locks.proofs.Claims.{indexes_released}
use Rattle.odb_locks.proofs.locks.Locks.unlock.Goals as goal

pub invariant_of-self : goal.invariant_of-self
invariant_of-self c = λ s q. indexes_released c.self.inside.index c.remove.new.self c.self.inside.table c.args.session c.args.name.now c.self.invariant c.remove.ensures s q ∙ sym (ap (λ (l : Locks). has_claim s (lock_of l q)) c.release.ensures)
