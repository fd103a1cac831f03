-- Sums of a weight over the entries of a finite map: what an insert and a removal make of them.
use Rattle.std.proofs.Common.{◌≡◌, ℕ, ◌+◌, ◌≤◌, ◌==◌, arith, Bool, true, false, cond, not, ◌&&◌, nat_lt, T, List, [], ◌∷◌, Option, Some, None, refl, sym, ap, ◌∙◌, true≢false}
use Rattle.std.proofs.lemmas.Bool.Decides.{nat_tests}
use Rattle.std.proofs.lemmas.Option.{none-some, same_Some}
use Rattle.std.specs.declared.cmp.Ordering.TheVariants.{Equal, Greater, Less}
use Rattle.std.specs.FinMap.Entries.{below_all, by_order, find, is_sorted, put, where_key}
use Rattle.std.specs.Ordering.{eq_by_cmp, is_eq, is_lt, nat_cmp}
use Rattle.odb_service.proofs.SessionMaps.{same_key}
use Rattle.odb_sessions.specs.Tied.{total}

halves : (a b : Bool) → T (a && b) → T a × T b
halves true b h = (tt, h)
halves false b h = absurd h

-- keys that come after this one
less : (b c : Bool) → T (is_lt (cond b Less (cond c Equal Greater))) → b ≡ true
less true c h = refl
less false true h = absurd h
less false false h = absurd h

module _ {X : Type 0} (w : X → ℕ) where
  abbrev pub slot : Option X → ℕ
  slot None = 0
  slot (Some x) = w x

  found_after : (k p : ℕ) (es : List (ℕ × X)) (x : X) → T (below_all nat_cmp k es) → find nat_cmp p es ≡ Some x → nat_lt k p ≡ true
  found_after k p [] x below there = absurd (none-some x there)
  found_after k p (f ∷ es) x below there = by (eq_by_cmp nat_cmp p f.0) refl there (found_after k p es x (halves _ _ below).1)
    where
      by : (b : Bool) → eq_by_cmp nat_cmp p f.0 ≡ b → cond b (Some f.1) (find nat_cmp p es) ≡ Some x → (find nat_cmp p es ≡ Some x → nat_lt k p ≡ true) → nat_lt k p ≡ true
      by true is there rest = ap (nat_lt k) (same_key p f.0 is) ∙ less (nat_lt k f.0) (k == f.0) (halves _ _ below).0
      by false is there rest = rest there

  -- a key that isn't after this one isn't found after it
  not_found : (k p : ℕ) (es : List (ℕ × X)) → T (below_all nat_cmp k es) → nat_lt k p ≡ false → slot (find nat_cmp p es) ≡ 0
  not_found k p es below early = by (find nat_cmp p es) refl
    where
      by : (o : Option X) → find nat_cmp p es ≡ o → slot o ≡ 0
      by None is = refl
      by (Some x) is = absurd (true≢false (sym (found_after k p es x below is) ∙ early))

  pub total-put : (k : ℕ) (v : X) (es : List (ℕ × X)) → T (is_sorted nat_cmp es) → total w (put nat_cmp k v es) + slot (find nat_cmp k es) ≡ total w es + w v
  total-put k v [] h = omega arith
  total-put k v (e ∷ es) h = by (nat_lt k e.0) (k == e.0) refl refl (total-put k v es (halves _ _ h).1)
    where
      early : nat_lt k e.0 ≡ true → slot (find nat_cmp k es) ≡ 0
      early is = not_found e.0 k es (halves _ _ h).0 (grind (arith, nat_tests))

      by : (b c : Bool) → nat_lt k e.0 ≡ b → (k == e.0) ≡ c → total w (put nat_cmp k v es) + slot (find nat_cmp k es) ≡ total w es + w v
          → total w (by_order (cond b Less (cond c Equal Greater)) ((k, v) ∷ e ∷ es) ((e.0, v) ∷ es) (e ∷ put nat_cmp k v es)) + slot (cond (is_eq (cond b Less (cond c Equal Greater))) (Some e.1) (find nat_cmp k es)) ≡ (w e.1 + total w es) + w v
      by true c is at rest = let none : slot (find nat_cmp k es) ≡ 0 = early is in omega (arith, none)
      by false true is at rest = omega arith
      by false false is at rest = omega (arith, rest)

  pub total-without : (k : ℕ) (es : List (ℕ × X)) → T (is_sorted nat_cmp es) → total w (where_key nat_cmp (λ x. not (eq_by_cmp nat_cmp k x)) es) + slot (find nat_cmp k es) ≡ total w es
  total-without k [] h = refl
  total-without k (e ∷ es) h = by (eq_by_cmp nat_cmp k e.0) refl (total-without k es (halves _ _ h).1)
    where
      left : List (ℕ × X)
      left = where_key nat_cmp (λ x. not (eq_by_cmp nat_cmp k x)) es

      none : eq_by_cmp nat_cmp k e.0 ≡ true → slot (find nat_cmp k es) ≡ 0
      none is = let own : k ≡ e.0 = same_key k e.0 is in not_found e.0 k es (halves _ _ h).0 (grind (arith, nat_tests))

      by : (b : Bool) → eq_by_cmp nat_cmp k e.0 ≡ b → total w (where_key nat_cmp (λ x. not (eq_by_cmp nat_cmp k x)) es) + slot (find nat_cmp k es) ≡ total w es
          → total w (cond (not b) (e ∷ where_key nat_cmp (λ x. not (eq_by_cmp nat_cmp k x)) es) (where_key nat_cmp (λ x. not (eq_by_cmp nat_cmp k x)) es)) + slot (cond b (Some e.1) (find nat_cmp k es)) ≡ w e.1 + total w es
      by true is rest = let gone : slot (find nat_cmp k es) ≡ 0 = none is in omega (arith, rest, gone)
      by false is rest = omega (arith, rest)

  pub weight_within : (k : ℕ) (x : X) (es : List (ℕ × X)) → find nat_cmp k es ≡ Some x → w x ≤ total w es
  weight_within k x [] there = absurd (none-some x there)
  weight_within k x (e ∷ es) there = by (eq_by_cmp nat_cmp k e.0) there (weight_within k x es)
    where
      by : (b : Bool) → cond b (Some e.1) (find nat_cmp k es) ≡ Some x → (find nat_cmp k es ≡ Some x → w x ≤ total w es) → w x ≤ w e.1 + total w es
      by true there rest = let own : w e.1 ≡ w x = ap w (same_Some e.1 x there) in omega (arith, own)
      by false there rest = let within : w x ≤ total w es = rest there in omega (arith, within)
