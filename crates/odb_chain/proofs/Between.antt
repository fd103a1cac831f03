-- The first version after another one says whether one stands between that and a third.
use Rattle.std.proofs.Common.{◌≡◌, ℕ, zero, suc, ◌<◌, ◌≤◌, arith, Bool, true, false, ◌&&◌, ◌||◌, nat_le, nat_lt, List, [], ◌∷◌, get_or, length, slice_get, Option, Some, None, refl, sym, ◌∙◌, true≢false}
use Rattle.std.proofs.lemmas.Bool.Decides.{nat_tests}
use Rattle.std.specs.List.Sorted.{IsPartitionedBy}
use Rattle.odb_chain.specs.Represented.Chain.{AllAfter, AreApart}
use Rattle.odb_chain.specs.Represented.MarkedVersions.{is_between}
use Rattle.odb_chain.proofs.MarkedVersions.{MarkedVersion}

after_at : (p : ℕ) (ls : List MarkedVersion) (j : ℕ) (d : MarkedVersion) → AllAfter p ls → j < length ls → p ≤ (get_or ls j d).0
after_at p [] j d h low = absurd (omega (arith, low))
after_at p (l ∷ ls) zero d h low = let later : p < l.0 = h.0 in omega (arith, later)
after_at p (l ∷ ls) (suc j) d h low = after_at p ls j d h.1 (omega (arith, low))

rises : (ls : List MarkedVersion) → AreApart ls → (i j : ℕ) (d : MarkedVersion) → i ≤ j → j < length ls → (get_or ls i d).0 ≤ (get_or ls j d).0
rises [] h i j d le low = absurd (omega (arith, low))
rises (l ∷ ls) h zero zero d le low = omega arith
rises (l ∷ ls) h zero (suc j) d le low = after_at l.0 ls j d h.0 (omega (arith, low))
rises (l ∷ ls) h (suc i) zero d le low = absurd (omega (arith, le))
rises (l ∷ ls) h (suc i) (suc j) d le low = rises ls h.1 i j d (omega (arith, le)) (omega (arith, low))

pub early_first : (a : ℕ) (ls : List MarkedVersion) → AreApart ls → IsPartitionedBy (λ (l : MarkedVersion). nat_le l.0 a) ls
early_first a ls h i j d le low early =
    let up : (get_or ls i d).0 ≤ (get_or ls j d).0 = rises ls h i j d le low in
    grind (arith, nat_tests)

none_between : (p a b : ℕ) (ls : List MarkedVersion) → AllAfter p ls → nat_le p b ≡ false → is_between ls a b ≡ false
none_between p a b [] h past = refl
none_between p a b (l ∷ ls) h past = by (nat_lt a l.0) (nat_le l.0 b) refl (none_between p a b ls h.1 past)
  where
    later : p < l.0
    later = h.0

    by : (c d : Bool) → nat_le l.0 b ≡ d → is_between ls a b ≡ false → ((c && d) || is_between ls a b) ≡ false
    by true true is rest = let low : p < l.0 = later in absurd (true≢false (sym is ∙ grind (arith, nat_tests)))
    by true false is rest = rest
    by false d is rest = rest

-- whether it comes up to another one
abbrev pub comes_up_to : ℕ → Option MarkedVersion → Bool
comes_up_to b None = false
comes_up_to b (Some l) = nat_le l.0 b

pub between_at : (a b : ℕ) (ls : List MarkedVersion) (i : ℕ) → AreApart ls → ((k : ℕ) (d : MarkedVersion) → k < i → k < length ls → nat_le (get_or ls k d).0 a ≡ true) → ((k : ℕ) (d : MarkedVersion) → i ≤ k → k < length ls → nat_le (get_or ls k d).0 a ≡ false)
    → comes_up_to b (slice_get ls i) ≡ is_between ls a b
between_at a b [] i h f g = refl
between_at a b (l ∷ ls) zero h f g = by (nat_lt a l.0) refl (nat_le l.0 b) refl
  where
    late : nat_le l.0 a ≡ false
    late = g zero l (omega arith) (omega arith)

    by : (c : Bool) → nat_lt a l.0 ≡ c → (d : Bool) → nat_le l.0 b ≡ d → d ≡ ((c && d) || is_between ls a b)
    by true is true at = refl
    by true is false at = sym (none_between l.0 a b ls h.0 at)
    by false is d at = let own : nat_le l.0 a ≡ false = late in absurd (true≢false (sym (grind (arith, nat_tests)) ∙ is))
between_at a b (l ∷ ls) (suc i) h f g = by (nat_lt a l.0) refl (nat_le l.0 b) (between_at a b ls i h.1 (λ k d low inside. f (suc k) d (omega (arith, low)) (omega (arith, inside))) (λ k d low inside. g (suc k) d (omega (arith, low)) (omega (arith, inside))))
  where
    early : nat_le l.0 a ≡ true
    early = f zero l (omega arith) (omega arith)

    by : (c : Bool) → nat_lt a l.0 ≡ c → (d : Bool) → comes_up_to b (slice_get ls i) ≡ is_between ls a b → comes_up_to b (slice_get ls i) ≡ ((c && d) || is_between ls a b)
    by true is d rest = let own : nat_le l.0 a ≡ true = early in absurd (true≢false (sym is ∙ grind (arith, nat_tests)))
    by false is d rest = rest
