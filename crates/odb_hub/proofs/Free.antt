-- The sessions for which nothing is held back: who is among them, and that they rise.
use Rattle.std.proofs.Common.{◌≡◌, ℕ, ◌==◌, Bool, true, false, cond, ◌&&◌, ◌||◌, T, List, [], ◌∷◌, map, filter, Some, refl, sym, ap, subst, ◌∙◌, true≢false}
use Rattle.std.specs.declared.cmp.Ordering.TheVariants.{Less, Equal}
use Rattle.std.specs.Cmp.{nat_cmp_total, tied_itself}
use Rattle.std.specs.FinMap.Entries.{below_all, find, is_sorted}
use Rattle.std.specs.List.{AllByRecursion}
use Rattle.std.specs.List.Sorted.{IsStrictlySortedBy}
use Rattle.std.specs.Ordering.{eq_by_cmp, is_lt, nat_cmp}
use borrow.Author.Tests.{eqb-true, eq-eqb}
use Rattle.odb_atoms.specs.FinMap.{get}
use Rattle.odb_hub.specs.Guarded.{Rising, is_in}
use Rattle.odb_hub.specs.Rings.{Ring, Rings, free_of, is_free, is_free_at}
use Rattle.odb_atoms.proofs.Rising.{less}
use Rattle.odb_service.proofs.SessionMaps.{key-itself, same_key}

abbrev free_in : List (ℕ × Ring) → List ℕ
free_in es = map (λ e. e.0) (filter (λ e. is_free e.1) es)

both_of : (a b : Bool) → T (a && b) → T a × T b
both_of true b h = (tt, h)
both_of false b h = absurd h

tied : (t : ℕ) → nat_cmp t t ≡ Equal
tied t = tied_itself nat_cmp_total t

apart : (t k : ℕ) → T (is_lt (nat_cmp t k)) → (k == t) ≡ false
apart t k h = by (k == t) refl
  where
    by : (b : Bool) → (k == t) ≡ b → b ≡ false
    by true is = absurd (subst (λ r. T (is_lt r)) (ap (λ x. nat_cmp t x) (eqb-true k t is) ∙ tied t) h)
    by false is = refl

-- one below all of them isn't among them
not_among : (t : ℕ) (es : List (ℕ × Ring)) → T (below_all nat_cmp t es) → is_in t (free_in es) ≡ false
not_among t [] low = refl
not_among t (e ∷ es) low =
    let l : T (is_lt (nat_cmp t e.0)) × T (below_all nat_cmp t es) = both_of (is_lt (nat_cmp t e.0)) (below_all nat_cmp t es) low in
    elim (is_free e.1) as (λ b. is_in t (map (λ e. e.0) (cond b (e ∷ filter (λ e. is_free e.1) es) (filter (λ e. is_free e.1) es))) ≡ false) [
      | true ↦ ap (λ b. b || is_in t (free_in es)) (apart t e.0 l.0) ∙ not_among t es l.1
      | false ↦ not_among t es l.1
    ]

among : (t : ℕ) (es : List (ℕ × Ring)) → T (is_sorted nat_cmp es) → is_in t (free_in es) ≡ is_free_at (find nat_cmp t es)
among t [] up = refl
among t (e ∷ es) up =
    let u : T (below_all nat_cmp e.0 es) × T (is_sorted nat_cmp es) = both_of (below_all nat_cmp e.0 es) (is_sorted nat_cmp es) up in
    here (e.0 == t) refl u.0 (among t es u.1)
  where
    free_here : (k : ℕ) (f : Bool) (rest : List ℕ) → is_in t (map (λ e. e.0) (cond f (e ∷ filter (λ e. is_free e.1) es) (filter (λ e. is_free e.1) es))) ≡ cond f ((e.0 == t) || is_in t (free_in es)) (is_in t (free_in es))
    free_here k true rest = refl
    free_here k false rest = refl

    here : (b : Bool) → (e.0 == t) ≡ b → T (below_all nat_cmp e.0 es) → is_in t (free_in es) ≡ is_free_at (find nat_cmp t es)
        → is_in t (free_in (e ∷ es)) ≡ is_free_at (cond (eq_by_cmp nat_cmp t e.0) (Some e.1) (find nat_cmp t es))
    here true is low rest =
        free_here t (is_free e.1) [] ∙ ap (λ b. cond (is_free e.1) (b || is_in t (free_in es)) (is_in t (free_in es))) is
        ∙ ap (λ b. cond (is_free e.1) true b) (ap (λ k. is_in k (free_in es)) (sym (eqb-true e.0 t is)) ∙ not_among e.0 es low)
        ∙ kept (is_free e.1)
        ∙ ap (λ b. is_free_at (cond b (Some e.1) (find nat_cmp t es))) (sym (ap (λ k. eq_by_cmp nat_cmp k e.0) (sym (eqb-true e.0 t is)) ∙ key-itself e.0))
      where
        kept : (b : Bool) → cond b true false ≡ b
        kept true = refl
        kept false = refl
    here false isnt low rest =
        free_here t (is_free e.1) [] ∙ ap (λ b. cond (is_free e.1) (b || is_in t (free_in es)) (is_in t (free_in es))) isnt
        ∙ same (is_free e.1) ∙ rest
        ∙ ap (λ b. is_free_at (cond b (Some e.1) (find nat_cmp t es))) (sym (untied (eq_by_cmp nat_cmp t e.0) refl))
      where
        same : (b : Bool) → cond b (is_in t (free_in es)) (is_in t (free_in es)) ≡ is_in t (free_in es)
        same true = refl
        same false = refl

        untied : (b : Bool) → eq_by_cmp nat_cmp t e.0 ≡ b → b ≡ false
        untied true tie = absurd (true≢false (sym (eq-eqb e.0 t (sym (same_key t e.0 tie))) ∙ isnt))
        untied false _ = refl

-- a session is listed where it has a ring and nothing is held back
pub listed : (m : Rings) (t : ℕ) → is_in t (free_of m) ≡ is_free_at (get m t)
unfolding get
listed m t = among t m.entries m.sorted

low : (k : ℕ) (es : List (ℕ × Ring)) → T (below_all nat_cmp k es) → AllByRecursion (λ y. nat_cmp k y ≡ Less) (free_in es)
low k [] h = tt
low k (e ∷ es) h =
    let l : T (is_lt (nat_cmp k e.0)) × T (below_all nat_cmp k es) = both_of (is_lt (nat_cmp k e.0)) (below_all nat_cmp k es) h in
    elim (is_free e.1) as (λ b. AllByRecursion (λ y. nat_cmp k y ≡ Less) (map (λ e. e.0) (cond b (e ∷ filter (λ e. is_free e.1) es) (filter (λ e. is_free e.1) es)))) [
      | true ↦ (less (nat_cmp k e.0) l.0, low k es l.1)
      | false ↦ low k es l.1
    ]

rise : (es : List (ℕ × Ring)) → T (is_sorted nat_cmp es) → IsStrictlySortedBy nat_cmp (free_in es)
unfolding IsStrictlySortedBy
rise [] up = tt
rise (e ∷ es) up =
    let u : T (below_all nat_cmp e.0 es) × T (is_sorted nat_cmp es) = both_of (below_all nat_cmp e.0 es) (is_sorted nat_cmp es) up in
    elim (is_free e.1) as (λ b. IsStrictlySortedBy nat_cmp (map (λ e. e.0) (cond b (e ∷ filter (λ e. is_free e.1) es) (filter (λ e. is_free e.1) es)))) [
      | true ↦ (low e.0 es u.0, rise es u.1)
      | false ↦ rise es u.1
    ]

pub rising : (m : Rings) → Rising (free_of m)
rising m = rise m.entries m.sorted
