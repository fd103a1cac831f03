use Rattle.std.proofs.Common.{sym, ap, ◌∙◌}
use Rattle.odb_atoms.specs.FinMap as map
use Rattle.odb_locks.specs.Locks.{Claim, Locks, has_claim, lock_of}
use Rattle.odb_locks.specs.Represented.Lock.{with_claim}
use Rattle.odb_locks.proofs.Claims.{indexes_claimed}
use Rattle.odb_locks.proofs.locks.Locks.claim.Goals as goal

pub invariant_of-self-in-Ok : goal.invariant_of-self-in-Ok
invariant_of-self-in-Ok c = λ s q.
    let made : Claim = record { session = c.args.session; stolen = c.args.stolen } in
    let put : (k : Claim) → Locks = λ k. map.insert c.self.inside.table c.args.name.now (with_claim k (lock_of c.self.inside.table c.args.name.now)) in
    indexes_claimed c.self.inside.index c.insert.new.self c.self.inside.table made c.args.name.now c.self.invariant c.in_ok-insert.ensures.ok s q
    ∙ sym (ap (λ (l : Locks). has_claim s (lock_of l q)) (c.in-Ok.ensures.ok ∙ ap put c.new-claim.ensures))
