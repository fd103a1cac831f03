use Rattle.std.proofs.Common.{ap, subst}
use Rattle.odb_hub.specs.Counted.{Counted}
use Rattle.odb_hub.specs.Guarded.{Guarded}
use Rattle.odb_hub.specs.Own.{GivesOwn}
use Rattle.odb_hub.proofs.OwnRounds.{own_counted}
use Rattle.odb_hub.proofs.counted.Counted.rounds_for.Goals as goal

pub invariant_of-self : goal.invariant_of-self
invariant_of-self g c =
    let i = c.self.inside in
    (own_counted c.args.session i.state c.rounds_for.new.self i.book.total i.before_base.value.total c.self.invariant.0 c.rounds_for.ensures.rounds, c.self.invariant.1)

pub returns-clause-rounds : goal.returns-clause-rounds
returns-clause-rounds g c = subst (λ (k : Guarded). GivesOwn c.args.session k c.rounds_for.new.self) (ap (λ (x : Counted). x.guarded) c.self.view_is) c.rounds_for.ensures.rounds
