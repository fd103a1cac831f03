use Rattle.std.proofs.Common.{◌≡◌, length, subst, sym, ap, ◌∙◌}
use Rattle.odb_chain.specs.Chains.{Chains}
use Rattle.odb_sessions.specs.FirstTexts.{AreFirstTexts}
use Rattle.odb_sessions.specs.Tied.{HasRoom}
use Rattle.odb_sessions.proofs.KeptTexts.{no_firsts}
use Rattle.odb_sessions.proofs.Room.{room_absorbed}
use Rattle.odb_sessions.proofs.Ties.{either}
use Rattle.odb_sessions.proofs.past.Past.absorb.Goals as goal

pub invariant_of-self : goal.invariant_of-self
invariant_of-self c =
    let k : Chains = c.self.inside.chains in
    let as_many : length c.args.change ≡ length k.db = c.requires.0 ∙ sym (ap (λ (x : Chains). length x.db) c.self.view_is) in (
      either c.absorb.result c.absorb.ensures.ok c.absorb.ensures.err
          (λ is. room_absorbed k c.absorb.new.self c.args.change c.self.inside.made c.self.invariant.0 as_many is)
          (λ is. subst (λ (x : Chains). HasRoom x c.self.inside.made) (sym is) c.self.invariant.0),
      subst (AreFirstTexts c.absorb.new.self.db) (sym c.clear.ensures) (no_firsts c.absorb.new.self.db),
    )
