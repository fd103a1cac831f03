-- Numbers in lines.
use Rattle.std.proofs.Common.{◌≡◌, ◌≤◌, ◌<◌, ℕ, ◌+◌, ◌-◌, ◌*◌, Bool, true, false, cond, List, [], ◌∷◌, None, Some, nat_lt, length, drop, drop-cons, get_or, suc, refl, ap, sym, ◌∙◌, arith}
use Rattle.std.proofs.lemmas.List.{drop_all}
use Rattle.odb_script.specs.Script.{number_in}
use Rattle.odb_script.specs.Represented.Command.{below}

-- further digits make no number smaller
grows : (n : ℕ) (ds : List ℕ) → n ≤ number_in n ds
grows n [] = omega arith
grows n (c ∷ cs) = let later = grows (10 * n + (c - 48)) cs in omega (arith, later)

not_below : (limit n : ℕ) → None ≡ below limit n → limit ≤ n
not_below limit n e = by (nat_lt n limit) refl e
  where
    by : (b : Bool) → nat_lt n limit ≡ b → None ≡ cond b (Some n) None → limit ≤ n
    by true is f = absurd (none_some f)
      where
        none_some : None ≡ Some n → ⊥
        none_some g = cc
    by false is f = grind (arith, is)

above : (limit n : ℕ) → limit ≤ n → None ≡ below limit n
above limit n h = ap (λ b. cond b (Some n) None) {x = false} {y = nat_lt n limit} (grind (arith, h))

is_below : (limit n : ℕ) → n < limit → Some n ≡ below limit n
is_below limit n h = ap (λ b. cond b (Some n) None) {x = true} {y = nat_lt n limit} (grind (arith, h))

pub too_large : (limit n c : ℕ) (cs : List ℕ) → None ≡ below limit (10 * n + (c - 48)) → None ≡ below limit (number_in n (c ∷ cs))
too_large limit n c cs e =
    let over = not_below limit (10 * n + (c - 48)) e in
    let more = grows (10 * n + (c - 48)) cs in
    above limit (number_in (10 * n + (c - 48)) cs) (omega (arith, over, more))

-- where no digit is left, the number so far is that of all digits
pub ends_below : (limit n i : ℕ) (ds : List ℕ) → length ds ≤ i → n < limit → number_in n (drop i ds) ≡ number_in 0 ds → Some n ≡ below limit (number_in 0 ds)
ends_below limit n i ds end h e = is_below limit n h ∙ ap (below limit) (ap (number_in n) (sym (drop_all i ds end)) ∙ e)

pub same_below : (limit n m : ℕ) → Some m ≡ below limit n → (m < limit) × (m ≡ n)
same_below limit n m e = by (nat_lt n limit) refl e
  where
    by : (b : Bool) → nat_lt n limit ≡ b → Some m ≡ cond b (Some n) None → (m < limit) × (m ≡ n)
    by true is f = let same : m ≡ n = same_Some m n f in (grind (arith, is, same), same)
      where
        same_Some : (a b : ℕ) → Some a ≡ Some b → a ≡ b
        same_Some a b g = cc
    by false is f = absurd (some_none f)
      where
        some_none : Some m ≡ None → ⊥
        some_none g = cc

-- the next digit, and those after it
pub next_digit : (ds : List ℕ) (i : ℕ) → i < length ds → drop i ds ≡ get_or ds i 0 ∷ drop (i + 1) ds
next_digit ds i there = let next : suc i ≡ i + 1 = omega arith in drop-cons ds i 0 there ∙ ap (λ j. get_or ds i 0 ∷ drop j ds) next
