use Rattle.std.proofs.Common.{◌≡◌, ◌+◌, ap, subst, sym}
use Rattle.odb_hub.specs.Counted.{Counted, submits}
use Rattle.odb_hub.specs.GroupRounds.{TakesRound}
use Rattle.odb_hub.specs.Guarded.{Guarded}
use Rattle.odb_hub.specs.declared.state.GroupRound.{GroupRound}
use Rattle.odb_hub.proofs.Counting.{round_counted}
use Rattle.odb_hub.proofs.counted.Counted.round.Goals as goal

pub invariant_of-self : goal.invariant_of-self
invariant_of-self g c =
    let i = c.self.inside in
    (round_counted (λ (p : GroupRound). p.given) (λ (p : GroupRound). p.next) c.round.result c.args.from c.args.most i.state c.round.new.self i.book.total i.before_base.value.total c.self.invariant.0 c.round.ensures.ok c.round.ensures.journal, c.self.invariant.1)

pub invariant_of-self-2 : goal.invariant_of-self-2
invariant_of-self-2 g c =
    let i = c.self.inside in
    let counted : i.book.total ≡ i.before_base.value.total + submits c.round.new.self.events = round_counted (λ (p : GroupRound). p.given) (λ (p : GroupRound). p.next) c.round.result c.args.from c.args.most i.state c.round.new.self i.book.total i.before_base.value.total c.self.invariant.0 c.round.ensures.ok c.round.ensures.journal in
    (subst (λ (k : Guarded). i.book.total ≡ i.before_base.value.total + submits k.events) (sym c.forget_after.ensures) counted, c.self.invariant.1)

pub returns-clause-ok : goal.returns-clause-ok
returns-clause-ok g c =
    subst (λ (k : Guarded). TakesRound c.args.from c.args.most c.in_ok-group.group.given c.in_ok-group.group.next k c.forget_after.new.self) (ap (λ (x : Counted). x.guarded) c.self.view_is)
    (subst (λ (n : Guarded). TakesRound c.args.from c.args.most c.in_ok-group.group.given c.in_ok-group.group.next c.self.inside.state n) (sym c.forget_after.ensures) c.in_ok-group.ensures.ok)
