-- A list of sessions without repeats, read from the front with a set of those seen.
use Rattle.std.proofs.Common.{◌≡◌, ℕ, ◌==◌, Bool, true, false, cond, not, ◌&&◌, List, [], ◌∷◌, refl, sym, ap, ◌∙◌}
use Rattle.std.specs.BTreeSet.{BTreeSet, Updates, contains}
use Rattle.std.specs.BTreeMap.{is_at}
use Rattle.std.specs.List.{filter, list_any}
use Rattle.std.specs.Ordering.{eq_by_cmp, nat_cmp}
use borrow.Author.Tests.{eqb-true, eq-eqb}
use Rattle.odb_service.specs.Run.{once}
use Rattle.odb_service.proofs.SessionMaps.{key-itself, same_key}

abbrev is_new : BTreeSet ℕ → ℕ → Bool
is_new seen t = not (contains nat_cmp seen t)

-- those of the rest that weren't seen, each once
abbrev pub left_over : BTreeSet ℕ → List ℕ → List ℕ
left_over seen rest = filter (is_new seen) (once rest)

filtered_twice : (p q r : ℕ → Bool) → ((t : ℕ) → (q t && p t) ≡ r t) → (xs : List ℕ) → filter p (filter q xs) ≡ filter r xs
filtered_twice p q r is [] = refl
filtered_twice p q r is (x ∷ xs) =
    elim (q x) as (λ b. (b && p x) ≡ r x → filter p (cond b (x ∷ filter q xs) (filter q xs)) ≡ cond (r x) (x ∷ filter r xs) (filter r xs)) [
      | true ↦ λ e. ap (λ b. cond b (x ∷ filter p (filter q xs)) (filter p (filter q xs))) e ∙ ap (λ ys. cond (r x) (x ∷ ys) ys) (filtered_twice p q r is xs)
      | false ↦ λ e. filtered_twice p q r is xs ∙ ap (λ b. cond b (x ∷ filter r xs) (filter r xs)) e
    ] (is x)

same_test : (t x : ℕ) → eq_by_cmp nat_cmp x t ≡ (t == x)
same_test t x = by (t == x) (eq_by_cmp nat_cmp x t) refl refl
  where
    by : (a b : Bool) → (t == x) ≡ a → eq_by_cmp nat_cmp x t ≡ b → b ≡ a
    by true true e f = refl
    by true false e f = sym f ∙ ap (λ k. eq_by_cmp nat_cmp x k) (eqb-true t x e) ∙ key-itself x
    by false true e f = sym (ap (λ k. k == x) (sym (same_key x t f)) ∙ eq-eqb x x refl) ∙ e
    by false false e f = refl

-- one that was seen is passed over
pub seen_again : (seen : BTreeSet ℕ) (x : ℕ) (rest : List ℕ) → contains nat_cmp seen x ≡ true → left_over seen (x ∷ rest) ≡ left_over seen rest
seen_again seen x rest e = rw e (filtered_twice (is_new seen) (λ t. not (t == x)) (is_new seen) both (once rest))
  where
    both : (t : ℕ) → (not (t == x) && is_new seen t) ≡ is_new seen t
    both t = by (t == x) refl
      where
        by : (b : Bool) → (t == x) ≡ b → (not b && is_new seen t) ≡ is_new seen t
        by true is = sym (ap not (ap (contains nat_cmp seen) (eqb-true t x is) ∙ e))
        by false is = refl

-- one that wasn't is the next, and was seen from then on
pub seen_first : (seen now : BTreeSet ℕ) (x : ℕ) (rest : List ℕ) → contains nat_cmp seen x ≡ false → Updates nat_cmp seen now x true → left_over seen (x ∷ rest) ≡ x ∷ left_over now rest
seen_first seen now x rest e added = rw e (ap (λ ys. x ∷ ys) (filtered_twice (is_new seen) (λ t. not (t == x)) (is_new now) both (once rest)))
  where
    both : (t : ℕ) → (not (t == x) && is_new seen t) ≡ is_new now t
    both t = by (t == x) (sym (same_test t x)) ∙ sym (ap not (added.0 t))
      where
        by : (b : Bool) → b ≡ eq_by_cmp nat_cmp x t → (not b && is_new seen t) ≡ not (cond (eq_by_cmp nat_cmp x t) true (contains nat_cmp seen t))
        by true is = ap (λ b. not (cond b true (contains nat_cmp seen t))) is
        by false is = ap (λ b. not (cond b true (contains nat_cmp seen t))) is

-- where nothing was seen, all are left
pub none_seen : (seen : BTreeSet ℕ) → seen.keys ≡ [] → (rest : List ℕ) → left_over seen rest ≡ once rest
none_seen seen empty rest = all (once rest)
  where
    all : (xs : List ℕ) → filter (is_new seen) xs ≡ xs
    all [] = refl
    all (x ∷ xs) = ap (λ ks. cond (not (list_any (is_at (nat_cmp x)) ks)) (x ∷ filter (is_new seen) xs) (filter (is_new seen) xs)) empty ∙ ap (λ ys. x ∷ ys) (all xs)
