use Rattle.odb_wire.proofs.Feeds.{follows-start}
use Rattle.odb_wire.proofs.framer.Framer.new.Goals as goal

pub invariant_of-result : goal.invariant_of-result
invariant_of-result c = follows-start c.args.most _ _ c.new.ensures (c.between.ensures.stands c.args.most) (c.between.ensures.fresh c.args.most)
