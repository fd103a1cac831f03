use Rattle.std.proofs.Common.{rules, arith, ◌≡◌, drop, subst, sym}
use Rattle.odb_chain.specs.Represented.Log.{AllUpTo, AreInOrder}
use Rattle.odb_chain.proofs.Recorded.{order_dropped, up_to_dropped}
use Rattle.odb_chain.proofs.log.Log.cut.Goals as goal

pub invariant_of-self : goal.invariant_of-self
invariant_of-self c =
    let old = c.self.inside.recorded.items in
    let done = c.self.inside.done in
    let left : c.drop-drain.new.self.0.items ≡ drop done old = search rules in
    (subst AreInOrder (sym left) (order_dropped done old c.self.invariant.0), subst (AllUpTo c.self.inside.latest) (sym left) (up_to_dropped c.self.inside.latest done old c.self.invariant.1), omega arith)
