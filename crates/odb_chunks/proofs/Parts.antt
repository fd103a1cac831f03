-- Two lists of which parts at the front are compared first.
use Rattle.std.specs.Prelude.{◌≡◌, ℕ, zero, suc, ◌≤◌, Bool, true, false, ◌&&◌, not, List, [], ◌∷◌, ◌++◌, drop, length, take}
use mathlib.Core.Path.{refl, sym, ap, subst, ◌∙◌}
use Rattle.std.proofs.Common.{arith}
use Rattle.std.proofs.lemmas.List.{length-append}
use Rattle.std.specs.Cmp.Lexicographic.{pointwise}

and_assoc : (a b c : Bool) → ((a && b) && c) ≡ (a && (b && c))
and_assoc true b c = refl
and_assoc false b c = refl

not_true : (b : Bool) → true ≡ not b → b ≡ false
not_true true e = e
not_true false e = refl

not_false : (b : Bool) → false ≡ not b → b ≡ true
not_false true e = refl
not_false false e = e

take_front : {X : Type 0} (n : ℕ) (xs ys : List X) → n ≤ length xs → take n (xs ++ ys) ≡ take n xs
take_front zero xs ys low = refl
take_front (suc n) [] ys low = absurd (omega arith)
take_front (suc n) (x ∷ xs) ys low = ap (λ zs. x ∷ zs) (take_front n xs ys (omega arith))

module _ {X : Type 0} (E : X → X → Bool) where
  parted : (n : ℕ) (xs ys : List X) → n ≤ length xs → n ≤ length ys → pointwise E xs ys ≡ (pointwise E (take n xs) (take n ys) && pointwise E (drop n xs) (drop n ys))
  parted zero xs ys low high = refl
  parted (suc n) [] ys low high = absurd (omega arith)
  parted (suc n) (x ∷ xs) [] low high = absurd (omega arith)
  parted (suc n) (x ∷ xs) (y ∷ ys) low high = ap (λ b. E x y && b) (parted n xs ys (omega arith) (omega arith)) ∙ sym (and_assoc (E x y) (pointwise E (take n xs) (take n ys)) (pointwise E (drop n xs) (drop n ys)))

  -- the lists are the same where these parts of what stands at their fronts are, and what is left
  same_parts : (n : ℕ) (xs ys left right more others : List X) → left ≡ xs ++ more → right ≡ ys ++ others → n ≤ length xs → n ≤ length ys → pointwise E left right ≡ (pointwise E (take n xs) (take n ys) && pointwise E (drop n left) (drop n right))
  same_parts n xs ys left right more others is_left is_right low high =
      let long : (zs ws : List X) → n ≤ length zs → n ≤ length (zs ++ ws) = λ zs ws h. subst (λ k. n ≤ k) (sym (length-append zs ws)) (omega (arith, h)) in
      let there : pointwise E (xs ++ more) (ys ++ others) ≡ (pointwise E (take n xs) (take n ys) && pointwise E (drop n (xs ++ more)) (drop n (ys ++ others))) = parted n (xs ++ more) (ys ++ others) (long xs more low) (long ys others high) ∙ (λ i. pointwise E (take_front n xs more low i) (take_front n ys others high i) && pointwise E (drop n (xs ++ more)) (drop n (ys ++ others))) in
      subst (λ zs. pointwise E zs right ≡ (pointwise E (take n xs) (take n ys) && pointwise E (drop n zs) (drop n right))) (sym is_left) (subst (λ zs. pointwise E (xs ++ more) zs ≡ (pointwise E (take n xs) (take n ys) && pointwise E (drop n (xs ++ more)) (drop n zs))) (sym is_right) there)

  module _ (n : ℕ) (xs ys left right more others : List X) (is_left : left ≡ xs ++ more) (is_right : right ≡ ys ++ others) (low : n ≤ length xs) (high : n ≤ length ys) where
    pub parts_differ : true ≡ not (pointwise E (take n xs) (take n ys)) → pointwise E left right ≡ false
    parts_differ e = same_parts n xs ys left right more others is_left is_right low high ∙ ap (λ b. b && pointwise E (drop n left) (drop n right)) (not_true _ e)

    pub parts_same : false ≡ not (pointwise E (take n xs) (take n ys)) → pointwise E (drop n left) (drop n right) ≡ pointwise E left right
    parts_same e = sym (same_parts n xs ys left right more others is_left is_right low high ∙ ap (λ b. b && pointwise E (drop n left) (drop n right)) (not_false _ e))
