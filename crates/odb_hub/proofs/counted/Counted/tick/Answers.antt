use Rattle.std.proofs.Common.{refl}
use Rattle.odb_service.specs.Run.{ticked}
use Rattle.odb_hub.proofs.Counting.{result_counted}
use Rattle.odb_hub.proofs.counted.Counted.tick.Goals as goal

pub invariant_of-self : goal.invariant_of-self
invariant_of-self g c =
    let i = c.self.inside in
    (result_counted c.tick.result (ticked c.args.now) i.state c.tick.new.self i.book.total i.before_base.value.total refl c.self.invariant.0 c.tick.ensures.ok c.tick.ensures.err, c.self.invariant.1)
