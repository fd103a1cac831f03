use Rattle.std.proofs.Common.{ap, subst}
use Rattle.odb_hub.specs.Counted.{Counted}
use Rattle.odb_hub.specs.Guarded.{Guarded}
use Rattle.odb_hub.specs.Own.{GivesTo}
use Rattle.odb_hub.proofs.OwnRounds.{next_counted}
use Rattle.odb_hub.proofs.counted.Counted.give_next.Goals as goal

pub invariant_of-self : goal.invariant_of-self
invariant_of-self g c =
    let i = c.self.inside in
    (next_counted c.give_next.result i.state c.give_next.new.self i.book.total i.before_base.value.total c.self.invariant.0 c.give_next.ensures, c.self.invariant.1)

pub returns-clause-given : goal.returns-clause-given
returns-clause-given g c = subst (λ (k : Guarded). GivesTo c.give_next.result k c.give_next.new.self) (ap (λ (x : Counted). x.guarded) c.self.view_is) c.give_next.ensures
