-- How much may be in a ring.
use Rattle.std.proofs.Common.{◌≡◌, ◌≤◌, ℕ, ◌+◌, ◌&&◌, Bool, true, false, List, [], ◌∷◌, ◌++◌, length, refl, sym, ap, ◌∙◌, append_assoc, arith, suc, true≢false}
use Rattle.std.specs.Prelude.{min, nat_le, nat_lt}
use Rattle.std.proofs.lemmas.Bool.Decides.{nat_tests}
use Rattle.odb_hub.specs.Room.{IsLooked, has_room, total}

pub total_push : (xs : List ℕ) (n : ℕ) → total (xs ++ n ∷ []) ≡ total xs + n
total_push [] n = omega arith
total_push (x ∷ xs) n = let ih = total_push xs n in omega (arith, ih)

both_true : (a b : Bool) → (a && b) ≡ true → b ≡ true
both_true true b e = e
both_true false b e = absurd (true≢false (sym e))

-- where there is room for a message its size is counted exactly
pub room_most : (xs : List ℕ) (n most : ℕ) → has_room xs n ≡ true → n ≤ most → 262144 ≤ most → total xs + n ≤ most
room_most [] n most room fits large = omega (arith, fits)
room_most (x ∷ xs) n most room fits large =
    let sum : nat_le (total (x ∷ xs) + n) 262144 ≡ true = both_true (nat_lt (length (x ∷ xs)) 64) _ room in
    let below : total (x ∷ xs) + n ≤ 262144 = grind (arith, nat_tests, sum) in
    omega (arith, below, large)

-- where there is room, one message more is in the ring than may be known
pub room_left : (xs : List ℕ) (n : ℕ) → has_room xs n ≡ true → length xs + 1 ≤ 64
room_left [] n room = omega arith
room_left (x ∷ xs) n room =
    let long : nat_lt (length (x ∷ xs)) 64 ≡ true = first_true (nat_lt (length (x ∷ xs)) 64) (nat_le (total (x ∷ xs) + n) 262144) room in
    grind (arith, nat_tests, long)
  where
    first_true : (a b : Bool) → (a && b) ≡ true → a ≡ true
    first_true true b e = refl
    first_true false b e = absurd (true≢false (sym e))

-- ---- one less

abbrev pub IsCutTo : ℕ → List ℕ → List ℕ → Type 0
IsCutTo left whole now = IsLooked whole now × (min left (length whole) ≤ length now)

pub cut_more : (left size : ℕ) (whole now new : List ℕ) → IsCutTo left whole now → now ≡ size ∷ new → left + 1 ≤ length now → IsCutTo left whole new
cut_more left size whole now new so_far is more =
    let long : length now ≡ suc (length new) = ap length is in
    let least : min left (length whole) ≤ left = grind (arith, nat_tests) in
    ((so_far.0.0 ++ size ∷ [], so_far.0.1 ∙ ap (λ ws. so_far.0.0 ++ ws) is ∙ sym (append_assoc so_far.0.0 (size ∷ []) new)), omega (arith, long, least, more))
