use Rattle.std.proofs.Common.{rules, ◌≡◌, ◌+◌, ◌<◌, arith, [], ◌∷◌, ◌++◌, subst, sym}
use Rattle.std.proofs.lemmas.Bool.Decides.{nat_tests}
use Rattle.odb_chain.specs.Represented.Chain.{AreRising}
use Rattle.odb_chain.proofs.chain.Chain.step.Goals as goal
use Rattle.odb_chain.proofs.MarkedVersions.{rising_later, rising_pushed}

pub invariant_of-self : goal.invariant_of-self
invariant_of-self c = rising_later c.self.inside.version c.self.inside.live.items c.self.invariant

pub invariant_of-self-2 : goal.invariant_of-self-2
invariant_of-self-2 c =
    let i = c.self.inside in
    let some : 0 < i.fresh = grind (arith, nat_tests) in
    let grown : c.push_reserved.new.self.items ≡ i.live.items ++ (i.version, i.fresh) ∷ [] = search rules in
    subst (AreRising (i.version + 1)) (sym grown) (rising_pushed i.version i.fresh i.live.items some c.self.invariant)

pub returns-then-self-eq0-clause-rising : goal.returns-then-self-eq0-clause-rising
returns-then-self-eq0-clause-rising c = invariant_of-self c

pub returns-clause-rising : goal.returns-clause-rising
returns-clause-rising c = invariant_of-self-2 c
