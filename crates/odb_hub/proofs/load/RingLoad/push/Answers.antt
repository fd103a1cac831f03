use Rattle.std.proofs.Common.{rules, ◌≡◌, ◌≤◌, ℕ, ◌+◌, List, [], ◌∷◌, ◌++◌, true, ap, arith, ◌∙◌}
use Rattle.std.specs.Prelude.{◌-◌, ◌^◌}
use Rattle.std.proofs.lemmas.Bool.Decides.{nat_tests}
use Rattle.odb_hub.specs.Room.{has_room, total}
use Rattle.odb_hub.proofs.Rooms.{room_most, total_push}
use Rattle.odb_hub.proofs.load.RingLoad.push.Goals as goal

pub invariant_of-self : goal.invariant_of-self
invariant_of-self c =
    let xs : List ℕ = c.self.inside.sizes.items in
    let n : ℕ = c.args.size in
    let room : has_room xs n ≡ true = ap (λ ws. has_room ws n) c.self.view_is ∙ c.requires in
    let fits : n ≤ 2 ^ 64 - 1 = search rules in
    let most : total xs + n ≤ 2 ^ 64 - 1 = room_most xs n (2 ^ 64 - 1) room fits (omega arith) in
    let items : c.push_back_reserved.new.self.items ≡ xs ++ n ∷ [] = search rules in
    let sum : total c.push_back_reserved.new.self.items ≡ total xs + n = ap total items ∙ total_push xs n in
    let before : c.self.inside.bytes ≡ total xs = c.self.invariant.0 in
    let added = c.saturating_add-self-inside.ensures in
    (grind (arith, nat_tests, most, sum, before, added), search rules)
