use Rattle.std.proofs.Common.{refl}
use Rattle.odb_service.specs.Run.{closed}
use Rattle.odb_hub.proofs.Counting.{result_counted}
use Rattle.odb_hub.proofs.counted.Counted.close.Goals as goal

pub invariant_of-self : goal.invariant_of-self
invariant_of-self g c =
    let i = c.self.inside in
    (result_counted c.close.result (closed c.args.session) i.state c.close.new.self i.book.total i.before_base.value.total refl c.self.invariant.0 c.close.ensures.ok c.close.ensures.err, c.self.invariant.1)
