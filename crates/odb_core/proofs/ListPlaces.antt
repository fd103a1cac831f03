-- Places in a list: the first that passes a test.
use Rattle.std.proofs.Common.{◌≡◌, ℕ, suc, ◌+◌, Bool, true, false, cond, not, nat_lt, List, [], ◌∷◌, length, take, drop, Option, Some, None, refl, sym, ◌∙◌, ap, arith}
use Rattle.std.proofs.lemmas.Bool.Decides.{nat_tests}
use Rattle.std.specs.Prelude.{option_map, option_and_then, slice_get}
use Rattle.std.specs.List.{position, position_or_len}
use Rattle.odb_service.specs.World.{split_first}
use Rattle.odb_core.specs.Represented.Places.{split_at}

abbrev Split : Type 0 → Type 0
Split A = List A × A × List A

-- after one more in front
abbrev behind : {A : Type 0} → A → Split A → Split A
behind x t = (x ∷ t.0, t.1, t.2)

one_further : {A : Type 0} (x : A) (xs : List A) (n : ℕ) → option_map (behind x) (split_at xs n) ≡ split_at (x ∷ xs) (suc n)
one_further {A} x xs n = by (slice_get xs n)
  where
    by : (o : Option A) → option_map (behind x) (option_map (λ y. let t : Split A = (take n xs, y, drop (suc n) xs) in t) o) ≡ option_map (λ y. let t : Split A = (x ∷ take n xs, y, drop (suc n) xs) in t) o
    by None = refl
    by (Some y) = refl

further : {A : Type 0} (x : A) (xs : List A) (b : Bool) (n : ℕ) → option_map (behind x) (option_and_then (split_at xs) (cond b (Some n) None)) ≡ option_and_then (split_at (x ∷ xs)) (cond b (Some (suc n)) None)
further x xs true n = one_further x xs n
further x xs false n = refl

-- the first that passes stands at its position
pub first_at : {A : Type 0} (p : A → Bool) (xs : List A) → split_first p xs ≡ option_and_then (split_at xs) (position p xs)
first_at p [] = refl
first_at {A} p (x ∷ xs) =
    let n : ℕ = position_or_len p xs in
    let one_more : 1 + n ≡ suc n = omega arith in
    let below : nat_lt (suc n) (suc (length xs)) ≡ nat_lt n (length xs) = grind (arith, nat_tests) in
    let some : nat_lt 0 (suc (length xs)) ≡ true = grind (arith, nat_tests) in
    elim (p x) as (λ b. cond b (Some (let t : Split A = ([], x, xs) in t)) (option_map (behind x) (split_first p xs))
    ≡ option_and_then (split_at (x ∷ xs)) (cond (nat_lt (cond (not b) (1 + n) 0) (suc (length xs))) (Some (cond (not b) (1 + n) 0)) None)) [
      | true ↦ ap (λ b. option_and_then (split_at (x ∷ xs)) (cond b (Some 0) None)) (sym some)
      | false ↦
          ap (option_map (behind x)) (first_at p xs) ∙ further x xs (nat_lt n (length xs)) n
          ∙ ap (λ b. option_and_then (split_at (x ∷ xs)) (cond b (Some (suc n)) None)) (sym below)
          ∙ ap (λ m. option_and_then (split_at (x ∷ xs)) (cond (nat_lt m (suc (length xs))) (Some m) None)) (sym one_more)
    ]
