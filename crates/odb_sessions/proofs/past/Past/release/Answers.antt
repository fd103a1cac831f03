use Rattle.std.proofs.Common.{ap, subst, sym}
use Rattle.odb_chain.specs.Chains.{Chains, IsLive}
use Rattle.odb_sessions.proofs.KeptTexts.{same_firsts}
use Rattle.odb_sessions.proofs.Room.{room_released}
use Rattle.odb_sessions.proofs.past.Past.release.Goals as goal

pub invariant_of-self : goal.invariant_of-self
invariant_of-self c =
    let k : Chains = c.self.inside.chains in
    let live : IsLive k c.args.mark = subst (λ (x : Chains). IsLive x c.args.mark) (sym c.self.view_is) c.requires in
    (room_released k c.release.new.self c.args.mark c.self.inside.made c.self.invariant.0 live c.release.ensures.chains, same_firsts k c.release.new.self c.self.inside.firsts (ap (λ (x : Chains). x.db) c.release.ensures.chains) c.self.invariant.1)
