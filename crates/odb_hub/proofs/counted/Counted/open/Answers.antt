use Rattle.std.proofs.Common.{rules, [], refl}
use Rattle.odb_service.specs.Run.{opened}
use Rattle.odb_hub.specs.Guarded.{Takes}
use Rattle.odb_hub.proofs.Counting.{took_counted}
use Rattle.odb_hub.proofs.counted.Counted.open.Goals as goal

pub invariant_of-self-2 : goal.invariant_of-self-2
invariant_of-self-2 g c =
    let i = c.self.inside in
    let takes : Takes (opened c.in_ok-session.session) i.state c.open.new.self [] = search rules in
    (took_counted (opened c.in_ok-session.session) i.state c.open.new.self i.book.total i.before_base.value.total refl c.self.invariant.0 takes, search rules)
