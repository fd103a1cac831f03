use Rattle.std.proofs.Common.{rules, ◌≡◌, ◌<◌, length, get_or, sym, subst, arith}
use Rattle.std.specs.List.{remove}
use Rattle.odb_service.specs.World.{Waiting}
use Rattle.odb_core.specs.Deadlines.{earliest}
use Rattle.odb_core.specs.Represented.Counts.{AreCounted, HasOneMore, count_of}
use Rattle.odb_core.proofs.WaitingCounts.{counted_removed, has_one}
use Rattle.odb_core.proofs.waiting_list.WaitingList.remove.Goals as goal

pub remove-waiting-requires : goal.remove-waiting-requires
remove-waiting-requires c =
    let below : c.args.place < length c.self.inside.items.items = subst (λ ps. c.args.place < length ps) (sym c.self.view_is) c.requires in
    omega (arith, below, c.self.inside.items.ok.0)

pub invariant_of-self : goal.invariant_of-self
invariant_of-self c =
    let i = c.self.inside in
    let k = c.args.place in
    let ps = i.items.items in
    let x : Waiting = c.remove-waiting.result in
    let below : k < length ps = subst (λ qs. k < length qs) (sym c.self.view_is) c.requires in
    let is : x ≡ get_or ps k x = c.remove-waiting.ensures.value in
    let left : c.remove-waiting.new.self.items ≡ remove ps k = c.remove-waiting.ensures.items in
    let own : c.session.result ≡ x.session = c.session.ensures in
    let some = subst (λ n. 0 < count_of i.counts n) (sym own) (has_one (count_of i.counts) ps k x c.self.invariant.0 below is) in
    let more : HasOneMore c.take.new.self i.counts x.session = subst (HasOneMore c.take.new.self i.counts) own (c.take.ensures some) in
    let first : c.earliest_of-self-inside.result ≡ earliest c.remove-waiting.new.self.items = search rules in
    (subst (AreCounted c.take.new.self) (sym left) (counted_removed (count_of i.counts) (count_of c.take.new.self) ps k x c.self.invariant.0 below is more), first)
