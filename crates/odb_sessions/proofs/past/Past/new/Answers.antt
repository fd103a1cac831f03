use Rattle.std.proofs.Common.{rules, ◌≡◌, sym, subst}
use Rattle.odb_chain.specs.Chains.{Chains, chains_of}
use Rattle.odb_sessions.specs.FirstTexts.{AreFirstTexts}
use Rattle.odb_sessions.proofs.KeptTexts.{no_firsts}
use Rattle.odb_sessions.proofs.Room.{room_none}
use Rattle.odb_sessions.proofs.past.Past.new.Goals as goal

pub invariant_of-result : goal.invariant_of-result
invariant_of-result c =
    let k : Chains = c.in_ok-chains.chains in
    let is : k ≡ chains_of c.args.db = search rules in
    (room_none k c.args.db is, subst (AreFirstTexts k.db) (sym c.new-2.ensures) (no_firsts k.db))
