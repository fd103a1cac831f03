use Rattle.std.proofs.Common.{List, sym, ap, ◌∙◌}
use Rattle.odb_locks.specs.Locks as model
use Rattle.odb_locks.specs.Locks.{Locks, has_claim, lock_of}
use Rattle.odb_locks.proofs.Release.{drop_session-none, drop_session-set, indexes_forgotten}
use Rattle.odb_locks.proofs.locks.Locks.forget_session.Goals as goal

pub returns-in_default : goal.returns-in_default
returns-in_default c =
    sym (
    ap (λ (l : Locks). (model.drop_session l c.args.session).0) (sym c.self.view_is)
    ∙ ap (λ (r : Locks × List model.Notice). r.0) (drop_session-none c.self.inside.table c.args.session (λ q. c.in_default.ensures q ∙ c.self.invariant c.args.session q))
    ∙ c.self.view_is
    )

pub invariant_of-self : goal.invariant_of-self
invariant_of-self c = λ s q.
    indexes_forgotten c.self.inside.index c.forget.new.self c.self.inside.table c.args.session c.in-Some.names.now c.self.invariant c.forget.ensures (λ n. c.in-Some.ensures n ∙ c.self.invariant c.args.session n) s q
    ∙ sym (ap (λ (l : Locks). has_claim s (lock_of l q)) c.release_all.ensures.released)

pub returns : goal.returns
returns c =
    c.release_all.ensures.released
    ∙ sym (
    ap (λ (l : Locks). (model.drop_session l c.args.session).0) (sym c.self.view_is)
    ∙ ap (λ (r : Locks × List model.Notice). r.0) (drop_session-set c.self.inside.table c.args.session c.in-Some.names.now c.release_all.ensures.ordered (λ n. c.in-Some.ensures n ∙ c.self.invariant c.args.session n))
    )
