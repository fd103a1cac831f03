-- A list split at the first place of a byte.
use Rattle.std.proofs.Common.{◌≡◌, ℕ, suc, ◌+◌, ◌==◌, nat_lt, Bool, true, false, not, cond, List, [], ◌∷◌, length, take, drop, None, Some, MatchOption, ◌-◌, refl, ap, sym, subst, ◌∙◌, arith, take_all, length-drop}
use Rattle.std.specs.List.{position, position_or_len}
use Rattle.std.specs.declared.option.Option.{Option}
use Rattle.odb_script.specs.Script.{split_at}

abbrev place : ℕ → List ℕ → ℕ
place c xs = position_or_len (λ x. x == c) xs

pub split_nowhere : (c : ℕ) (xs : List ℕ) → nat_lt (position_or_len (λ x. x == c) xs) (length xs) ≡ false → (split_at c xs).1 ≡ None
split_nowhere c [] e = refl
split_nowhere c (x ∷ xs) e = by (x == c) e (split_nowhere c xs)
  where
    by : (b : Bool) → nat_lt (cond (not b) (1 + place c xs) 0) (suc (length xs)) ≡ false → (nat_lt (place c xs) (length xs) ≡ false → (split_at c xs).1 ≡ None)
        → (cond {A = List ℕ × Option (List ℕ)} b ([], Some xs) (x ∷ (split_at c xs).0, (split_at c xs).1)).1 ≡ None
    by true e rest = absurd (grind (arith, e))
    by false e rest = rest (grind (arith, e))

pub split_there : (c : ℕ) (xs : List ℕ) → nat_lt (position_or_len (λ x. x == c) xs) (length xs) ≡ true
    → split_at c xs ≡ (take (position_or_len (λ x. x == c) xs) xs, Some (drop (position_or_len (λ x. x == c) xs + 1) xs))
split_there c [] e = absurd (grind (arith, e))
split_there c (x ∷ xs) e = by (x == c) e (split_there c xs)
  where
    by : (b : Bool) → nat_lt (cond (not b) (1 + place c xs) 0) (suc (length xs)) ≡ true
        → (nat_lt (place c xs) (length xs) ≡ true → split_at c xs ≡ (take (place c xs) xs, Some (drop (place c xs + 1) xs)))
        → ◌≡◌ {A = List ℕ × Option (List ℕ)} (cond b ([], Some xs) (x ∷ (split_at c xs).0, (split_at c xs).1)) (take (cond (not b) (1 + place c xs) 0) (x ∷ xs), Some (drop (cond (not b) (1 + place c xs) 0 + 1) (x ∷ xs)))
    by true e rest = refl
    by false e rest =
        let front : x ∷ take (place c xs) xs ≡ take (1 + place c xs) (x ∷ xs) = ap (λ k. take k (x ∷ xs)) {x = suc (place c xs)} (omega arith) in
        let back : drop (place c xs + 1) xs ≡ drop (1 + place c xs + 1) (x ∷ xs) = ap (λ k. drop k (x ∷ xs)) {x = suc (place c xs + 1)} (omega arith) in
        ap (λ p. let both : List ℕ × Option (List ℕ) = (x ∷ p.0, p.1) in both) (rest (grind (arith, e)))
        ∙ (λ i. let both : List ℕ × Option (List ℕ) = (front i, Some (back i)) in both)

-- what the first place of a byte says
abbrev pub SplitsAt : ℕ → List ℕ → Option ℕ → Type 0
SplitsAt c xs r = MatchOption r ((split_at c xs).1 ≡ None) (λ at. split_at c xs ≡ (take at xs, Some (take (length xs - (at + 1)) (drop (at + 1) xs))))

pub splits : (c : ℕ) (xs : List ℕ) (r : Option ℕ) → r ≡ position (λ x. x == c) xs → SplitsAt c xs r
splits c xs r is = subst (SplitsAt c xs) (sym is) (by (nat_lt (place c xs) (length xs)) refl)
  where
    by : (b : Bool) → nat_lt (place c xs) (length xs) ≡ b → SplitsAt c xs (cond b (Some (place c xs)) None)
    by true e = split_there c xs e ∙ ap (λ rest. (take (place c xs) xs, Some rest)) (sym (take_all (length xs - (place c xs + 1)) (drop (place c xs + 1) xs) (let len = length-drop (place c xs + 1) xs in omega (arith, len))))
    by false e = split_nowhere c xs e
