-- Room for marks: changes, releases and moves keep it.
use Rattle.std.proofs.Common.{◌≡◌, ℕ, ◌+◌, ◌<◌, ◌≤◌, arith, List, [], ◌∷◌, length, map, refl, sym, ap, subst, suc, ◌∙◌}
use Rattle.std.proofs.lemmas.List.{length-map}
use Rattle.odb_atoms.specs.FinMap as finite
use Rattle.odb_chain.specs.Chains.{Chains, IsLive, Mark, absorbed, chains_of, released}
use Rattle.odb_request.specs.Request.{Request}
use Rattle.odb_tables.specs.Change.{Changes, all_changed_by}
use Rattle.odb_tables.specs.Database.{Db}
use Rattle.odb_sessions.specs.Marked.{Watched}
use Rattle.odb_sessions.specs.Moved.{Moves}
use Rattle.odb_sessions.specs.Tied.{Adds, HasRoom, KeepsRoom, counted_in}
use Rattle.odb_sessions.proofs.Adds.{length-set}
use Rattle.odb_sessions.proofs.Counted.{none_counted, none_more, stands_inside}

pub room_none : (k : Chains) (db : Db) → k ≡ chains_of db → HasRoom k 1
room_none k db is =
    subst (λ (c : Chains). HasRoom c 1) (sym is) (length-map db (λ t. finite.empty), (let none : counted_in (chains_of db).live ≡ 0 = none_counted db in omega (arith, none)))

length-changed : (db : Db) (cs : List Changes) → length cs ≡ length db → length (all_changed_by db cs) ≡ length db
length-changed [] [] as_many = refl
length-changed [] (c ∷ cs) as_many = refl
length-changed (d ∷ db) [] as_many = as_many
length-changed (d ∷ db) (c ∷ cs) as_many = ap suc (length-changed db cs (omega (arith, as_many)))

pub room_absorbed : (k new : Chains) (cs : List Changes) (n : ℕ) → HasRoom k n → length cs ≡ length k.db → new ≡ absorbed cs k → HasRoom new n
room_absorbed k new cs n room as_many is = subst (λ (c : Chains). HasRoom c n) (sym is) (room.0 ∙ sym (length-changed k.db cs as_many), room.1)

pub room_released : (k new : Chains) (m : Mark) (n : ℕ) → HasRoom k n → IsLive k m → new ≡ released m.table m.version k → HasRoom new n
room_released k new m n room live is =
    let low : m.table < length k.live = stands_inside k.live m.table m.version _ live.1 in
    let few : counted_in (released m.table m.version k).live ≤ counted_in k.live = none_more k m.table m.version low in
    let all : counted_in k.live < n = room.1 in
    subst (λ (c : Chains). HasRoom c n) (sym is) (length-set k.live m.table _ ∙ room.0, omega (arith, few, all))

-- marks are made, one for each of these requests
pub room_more : (k new : Chains) (n : ℕ) (ms : List Mark) (ws : List Watched) (qs : List Request) → HasRoom k n → Adds k new ms → counted_in new.live ≡ counted_in k.live + length ws → map (λ w. w.request) ws ≡ qs → HasRoom new (n + length qs)
room_more k new n ms ws qs room f more asked = (
  f.2 ∙ room.0 ∙ ap length (sym f.0),
  let low : counted_in k.live < n = room.1 in
      let requests : length (map (λ w. w.request) ws) ≡ length ws = length-map ws (λ w. w.request) in
      let all : length (map (λ w. w.request) ws) ≡ length qs = ap length asked in
      omega (arith, more, low, requests, all),
)

-- marks move
pub room_moved : (k new : Chains) (n : ℕ) (ms : List Mark) → HasRoom k n → Moves k new ms → KeepsRoom k new → HasRoom new n
room_moved k new n ms room f keeps = (
  keeps.0 ∙ room.0 ∙ ap length (sym f.0),
  let low : counted_in k.live < n = room.1 in
      let same : counted_in new.live ≡ counted_in k.live = keeps.1 in
      omega (arith, low, same),
)
