use Rattle.std.proofs.Common.{◌≡◌, ◌<◌, ap, arith, length}
use Rattle.odb_trials.proofs.MarkLists.{still_all}
use Rattle.odb_trials.proofs.marks.Marked.put.Goals as goal

pub invariant_of-self-2 : goal.invariant_of-self-2
invariant_of-self-2 c =
    let k = c.self.inside.chains in
    let new = c.absorb.new.self in
    let is = c.in_ok-absorb.ensures.ok in
    let some : 0 < length k.db = c.self.invariant.0 in
    let before : length k.live ≡ length k.db = c.db.ensures.lists in
    let after : length new.live ≡ length new.db = c.db-after.ensures.lists in
    let same : length new.live ≡ length k.live = ap (λ x. length x.live) is in (
      omega (arith, some, before, after, same),
      c.in_ok-absorb.ensures.now,
      still_all c.in_ok-change.change k new c.self.inside.marks.items is c.self.invariant.2,
    )
