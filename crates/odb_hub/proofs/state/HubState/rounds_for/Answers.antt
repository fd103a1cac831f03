use Rattle.std.proofs.Common.{rules, ◌≡◌, true, [], ◌∷◌, refl, subst}
use Rattle.odb_hub.specs.Own.{FlushesOwn, TakesOwnRound}
use Rattle.odb_hub.proofs.Given.{gave_nothing}
use Rattle.odb_hub.proofs.OwnRounds.{gives_all}
use Rattle.odb_hub.proofs.state.HubState.rounds_for.Goals as goal

pub loop-init : goal.loop-init
loop-init g c = ([], refl)

pub loop-preserved : goal.loop-preserved
loop-preserved g c =
    let own : TakesOwnRound c.args.session c.in_ok-given.given c.loop.self c.round_for.new.self = search rules in
    (c.in_ok-given.given ∷ c.loop.invariant.0, (c.loop.self, c.loop.invariant.1, own))

pub returns-then-rests-clause-rounds : goal.returns-then-rests-clause-rounds
returns-then-rests-clause-rounds g c = gives_all c.args.session c.args.self.now c.loop.self c.loop.invariant.0 c.loop.invariant.1

pub returns-then-rests-clause-given : goal.returns-then-rests-clause-given
returns-then-rests-clause-given g c =
    let rests : c.rests.result ≡ true = search rules in
    λ free. c.rests.ensures rests

pub returns-in_err-given-clause-rounds : goal.returns-in_err-given-clause-rounds
returns-in_err-given-clause-rounds g c =
    let flushed : FlushesOwn c.args.session c.loop.self c.round_for.new.self = search rules in
    (c.loop.invariant.0, c.loop.self, c.loop.invariant.1, flushed)

pub returns-then-given-eq0-clause-rounds : goal.returns-then-given-eq0-clause-rounds
returns-then-given-eq0-clause-rounds g c =
    let own : TakesOwnRound c.args.session c.in_ok-given.given c.loop.self c.round_for.new.self = search rules in
    gives_all c.args.session c.args.self.now c.round_for.new.self (c.in_ok-given.given ∷ c.loop.invariant.0) (c.loop.self, c.loop.invariant.1, own)

pub returns-then-given-eq0-clause-given : goal.returns-then-given-eq0-clause-given
returns-then-given-eq0-clause-given g c =
    let own : TakesOwnRound c.args.session c.in_ok-given.given c.loop.self c.round_for.new.self = search rules in
    let none : c.in_ok-given.given ≡ 0 = search rules in
    gave_nothing c.args.session c.loop.self c.round_for.new.self (subst (λ count. TakesOwnRound c.args.session count c.loop.self c.round_for.new.self) none own)

pub returns-clause-rounds : goal.returns-clause-rounds
returns-clause-rounds g c = gives_all c.args.session c.args.self.now c.loop.self c.loop.invariant.0 c.loop.invariant.1
