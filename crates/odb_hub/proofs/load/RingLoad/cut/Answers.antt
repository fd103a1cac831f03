use Rattle.std.proofs.Common.{rules, ◌≡◌, ◌≤◌, ℕ, ◌+◌, List, ◌∷◌, length, ap, arith}
use Rattle.std.proofs.lemmas.Bool.Decides.{nat_tests}
use Rattle.odb_hub.specs.Room.{total}
use Rattle.odb_hub.proofs.Rooms.{IsCutTo, cut_more}
use Rattle.odb_hub.proofs.load.RingLoad.cut.Goals as goal

pub loop-self-preserved : goal.loop-self-preserved
loop-self-preserved c =
    let now : List ℕ = c.loop-self.self-inside.sizes.items in
    let new : List ℕ = c.pop_front.new.self.items in
    let is : now ≡ c.in-Some.size ∷ new = search rules in
    let more : c.args.left + 1 ≤ length now = search rules in
    let cut : IsCutTo c.args.left c.self.inside.sizes.items new = cut_more c.args.left c.in-Some.size c.self.inside.sizes.items now new (c.loop-self.invariant.0, c.loop-self.invariant.1) is more in
    let bytes : c.loop-self.self-inside.bytes ≡ total now = c.loop-self.invariant.2 in
    let sum : total now ≡ c.in-Some.size + total new = ap total is in
    let less = c.saturating_sub-self-inside.ensures in
    (cut.0, cut.1, grind (arith, nat_tests, bytes, sum, less), search rules)
