use Rattle.std.proofs.Common.{sym, ap, ◌∙◌}
use Rattle.odb_atoms.specs.FinMap as map
use Rattle.odb_locks.specs.Locks as model
use Rattle.odb_locks.specs.Locks.{Locks}
use Rattle.odb_locks.proofs.locks.Locks.new.Goals as goal

pub invariant_of-result : goal.invariant_of-result
unfolding map.empty map.get
invariant_of-result c = λ s q. c.new-2.ensures s q ∙ sym (ap (λ (l : Locks). model.has_claim s (model.lock_of l q)) c.new.ensures)
