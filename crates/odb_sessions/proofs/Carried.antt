-- Marks that have others in their place: what one step makes of them, what several do, and what that is among all sessions.
use Rattle.std.proofs.Common.{◌≡◌, ℕ, zero, suc, ◌+◌, ◌<◌, ◌≤◌, arith, Bool, true, false, nat_lt, List, [], ◌∷◌, ◌++◌, drop, flat_map, length, slice_index_or, slice_set, take, Some, refl, sym, ap, subst, ◌∙◌, append_assoc}
use Rattle.std.proofs.lemmas.Bool.Decides.{nat_tests}
use Rattle.std.proofs.lemmas.List.{append-nil}
use Rattle.std.specs.List.{remove}
use Rattle.odb_atoms.specs.FinMap as finite
use Rattle.odb_chain.specs.Chains.{Chains, IsNow, Mark, count, standing, version}
use Rattle.odb_tables.specs.Database.{table_at}
use Rattle.odb_sessions.specs.Carried.{Carries, IsReady}
use Rattle.odb_sessions.specs.Marked.{MarkedMonitor, MarkedSession, Sessions, marks_in, marks_of}
use Rattle.odb_sessions.specs.Moved.{Moves, all_now}
use Rattle.odb_sessions.specs.Tied.{Frees, IsTied, KeepsContents, uses}
use Rattle.odb_sessions.proofs.Adds.{live_joined, stands_itself}
use Rattle.odb_sessions.proofs.Moved.{tied_moved}
use Rattle.odb_sessions.proofs.Moves.{came_late, moved_live, same_version, stood}
use Rattle.odb_sessions.proofs.Releases.{live-left, live-right, still_live, uses-++}
use Rattle.odb_sessions.proofs.Ties.{has_all}
use Rattle.odb_sessions.specs.Watches.{KeepsWatch}

-- ---- one step

pub nothing_carried : (k : Chains) (ms : List Mark) → IsReady k ms → Carries k k ms ms
nothing_carried k ms h = (refl, refl, λ t p. refl, λ t p low. absurd (omega (arith, low)), λ t p x there some. stands_itself (standing k t p) x there, h.0, h.1.0)

pub moved_carried : (k new : Chains) (ms : List Mark) → IsReady k ms → Moves k new ms → Carries k new ms (all_now k ms)
moved_carried k new ms h f = (
  f.0,
  f.1,
  f.2,
  λ t p low. came_late k ms t p (let step : count k t p + uses t p (all_now k ms) ≡ count new t p + uses t p ms = f.2 t p in omega (arith, low, step)),
  f.3,
  f.4 h.0,
  (moved_live k new ms h.1 h.0 f).0,
)

pub freed_carried : (k new : Chains) (ms : List Mark) → IsNow k → Frees k new ms → Carries k new ms []
freed_carried k new ms now f = (
  f.0,
  f.1,
  λ t p. let step : count k t p ≡ count new t p + uses t p ms = f.2 t p in omega (arith, step),
  λ t p low. absurd (let step : count k t p ≡ count new t p + uses t p ms = f.2 t p in omega (arith, low, step)),
  f.3,
  f.4 now,
  tt,
)

-- ---- among other marks

pub ready_part : (k : Chains) (before ms after : List Mark) → IsReady k (before ++ (ms ++ after)) → IsReady k ms
ready_part k before ms after h = (
  h.0,
  (
    live-left k ms after (live-right k before (ms ++ after) h.1.0),
    λ t p.
        let sum : uses t p (before ++ (ms ++ after)) ≡ uses t p before + uses t p (ms ++ after) = uses-++ t p before (ms ++ after) in
        let rest : uses t p (ms ++ after) ≡ uses t p ms + uses t p after = uses-++ t p ms after in
        let all : uses t p (before ++ (ms ++ after)) ≤ count k t p = h.1.1 t p in
        omega (arith, sum, rest, all),
  ),
)

module _ (k new : Chains) (before after xs ys : List Mark) (h : IsReady k (before ++ (xs ++ after))) (f : Carries k new xs ys) where
  sum_old : (t p : ℕ) → uses t p (before ++ (xs ++ after)) ≡ uses t p before + (uses t p xs + uses t p after)
  sum_old t p = uses-++ t p before (xs ++ after) ∙ ap (λ n. uses t p before + n) (uses-++ t p xs after)

  sum_new : (t p : ℕ) → uses t p (before ++ (ys ++ after)) ≡ uses t p before + (uses t p ys + uses t p after)
  sum_new t p = uses-++ t p before (ys ++ after) ∙ ap (λ n. uses t p before + n) (uses-++ t p ys after)

  -- what is left beside the marks that go
  left : (t p : ℕ) → uses t p before + (uses t p ys + uses t p after) ≤ count new t p
  left t p =
      let old : uses t p (before ++ (xs ++ after)) ≡ uses t p before + (uses t p xs + uses t p after) = sum_old t p in
      let all : uses t p (before ++ (xs ++ after)) ≤ count k t p = h.1.1 t p in
      let step : count k t p + uses t p ys ≡ count new t p + uses t p xs = f.2 t p in
      omega (arith, old, all, step)

  pub carried_among : Carries k new (before ++ (xs ++ after)) (before ++ (ys ++ after))
  carried_among = (
    f.0,
    f.1,
    λ t p.
        let old : uses t p (before ++ (xs ++ after)) ≡ uses t p before + (uses t p xs + uses t p after) = sum_old t p in
        let then : uses t p (before ++ (ys ++ after)) ≡ uses t p before + (uses t p ys + uses t p after) = sum_new t p in
        let step : count k t p + uses t p ys ≡ count new t p + uses t p xs = f.2 t p in
        omega (arith, old, then, step),
    f.3,
    f.4,
    f.5,
    live_joined new before (ys ++ after)
        (still_live k new before f.4 (live-left k before (xs ++ after) h.1.0) (λ t p. let low : uses t p before + (uses t p ys + uses t p after) ≤ count new t p = left t p in omega (arith, low)))
        (
        live_joined new ys after f.6
        (still_live k new after f.4 (live-right k xs after (live-right k before (xs ++ after) h.1.0)) (λ t p. let low : uses t p before + (uses t p ys + uses t p after) ≤ count new t p = left t p in omega (arith, low)))
        ),
  )

-- the same marks in another order
pub ready_turned : (k : Chains) (xs ys : List Mark) → IsReady k (xs ++ ys) → IsReady k (ys ++ xs)
ready_turned k xs ys h = (
  h.0,
  (
    live_joined k ys xs (live-right k xs ys h.1.0) (live-left k xs ys h.1.0),
    λ t p.
        let one : uses t p (xs ++ ys) ≡ uses t p xs + uses t p ys = uses-++ t p xs ys in
        let other : uses t p (ys ++ xs) ≡ uses t p ys + uses t p xs = uses-++ t p ys xs in
        let all : uses t p (xs ++ ys) ≤ count k t p = h.1.1 t p in
        omega (arith, one, other, all),
  ),
)

pub carried_from : (k new : Chains) (xs ys zs : List Mark) → ((t p : ℕ) → uses t p zs ≡ uses t p xs) → Carries k new xs ys → Carries k new zs ys
carried_from k new xs ys zs same f = (
  f.0,
  f.1,
  λ t p. let one : uses t p zs ≡ uses t p xs = same t p in let step : count k t p + uses t p ys ≡ count new t p + uses t p xs = f.2 t p in omega (arith, one, step),
  f.3,
  f.4,
  f.5,
  f.6,
)

pub carried_turned : (k new : Chains) (xs ys zs : List Mark) → Carries k new xs (ys ++ zs) → Carries k new xs (zs ++ ys)
carried_turned k new xs ys zs f = (
  f.0,
  f.1,
  λ t p.
      let one : uses t p (ys ++ zs) ≡ uses t p ys + uses t p zs = uses-++ t p ys zs in
      let other : uses t p (zs ++ ys) ≡ uses t p zs + uses t p ys = uses-++ t p zs ys in
      let step : count k t p + uses t p (ys ++ zs) ≡ count new t p + uses t p xs = f.2 t p in
      omega (arith, one, other, step),
  f.3,
  f.4,
  f.5,
  live_joined new zs ys (live-right new ys zs f.6) (live-left new ys zs f.6),
)

pub turned_uses : (t p : ℕ) (xs ys : List Mark) → uses t p (xs ++ ys) ≡ uses t p (ys ++ xs)
turned_uses t p xs ys =
    let one : uses t p (xs ++ ys) ≡ uses t p xs + uses t p ys = uses-++ t p xs ys in
    let other : uses t p (ys ++ xs) ≡ uses t p ys + uses t p xs = uses-++ t p ys xs in
    omega (arith, one, other)

-- ---- one step after the other

pub ready_then : (k new : Chains) (xs ys : List Mark) → IsReady k xs → Carries k new xs ys → IsReady new ys
ready_then k new xs ys h f = (
  f.5,
  (
    f.6,
    λ t p.
        let all : uses t p xs ≤ count k t p = h.1.1 t p in
        let step : count k t p + uses t p ys ≡ count new t p + uses t p xs = f.2 t p in
        omega (arith, all, step),
  ),
)

module _ (a b c : Chains) (xs ys zs : List Mark) (now : IsNow a) (f : Carries a b xs ys) (g : Carries b c ys zs) where
  comes_now : (t p : ℕ) → count a t p < count c t p → p ≡ version a t
  comes_now t p low = by (nat_lt (count a t p) (count b t p)) refl
    where
      by : (e : Bool) → nat_lt (count a t p) (count b t p) ≡ e → p ≡ version a t
      by true is = f.3 t p (grind (arith, nat_tests))
      by false is =
          let late : count b t p ≤ count a t p = grind (arith, nat_tests) in
          g.3 t p (omega (arith, late, low)) ∙ same_version a b t f.1

  keeps_on : KeepsContents a c
  keeps_on t p x there h = by (count b t p) refl
    where
      by : (n : ℕ) → count b t p ≡ n → standing c t p ≡ Some (record { content = x.content; marks = count c t p })
      by (suc n) is =
          let some : 0 < count b t p = omega (arith, is) in
          g.4 t p (record { content = x.content; marks = count b t p }) (f.4 t p x there some) h
      by zero is =
          let late : p ≡ version a t = g.3 t p (omega (arith, is, h)) ∙ same_version a b t f.1 in
          let then : x.content ≡ table_at a.db t = (now t p x there).1 late in
          let latest : p ≡ version c t = late ∙ sym (same_version a c t (g.1 ∙ f.1)) in
          stood (standing c t p) x.content h (λ y is. (g.5 t p y is).1 latest ∙ ap (λ db. table_at db t) (g.0 ∙ f.0) ∙ sym then)

  pub carried_on : Carries a c xs zs
  carried_on = (
    g.0 ∙ f.0,
    g.1 ∙ f.1,
    λ t p.
        let first : count a t p + uses t p ys ≡ count b t p + uses t p xs = f.2 t p in
        let second : count b t p + uses t p zs ≡ count c t p + uses t p ys = g.2 t p in
        omega (arith, first, second),
    comes_now,
    keeps_on,
    g.5,
    g.6,
  )

-- ---- among all sessions

pub tied_carried : (k new : Chains) (m : Sessions) (s : ℕ) (x y : MarkedSession) → IsTied k m → finite.get m s ≡ Some x → Carries k new (marks_of x) (marks_of y) → KeepsWatch x y → IsTied new (finite.insert m s y)
tied_carried k new m s x y h there f same = tied_moved k new m s x y h there (λ t p. sym (f.2 t p)) f.4 f.5 f.6 same

pub ready_at : (k : Chains) (m : Sessions) (s : ℕ) (x : MarkedSession) → IsTied k m → finite.get m s ≡ Some x → IsReady k (marks_of x)
ready_at k m s x h there = (h.0, has_all k m s x h there)

-- ---- at one monitor

abbrev pub flat : List MarkedMonitor → List Mark
flat xs = flat_map marks_in xs

parted : (xs : List MarkedMonitor) (n : ℕ) (d : MarkedMonitor) → n < length xs → flat xs ≡ flat (take n xs) ++ (marks_in (slice_index_or xs n d) ++ flat (drop (suc n) xs))
parted [] n d low = absurd (omega (arith, low))
parted (x ∷ xs) zero d low = refl
parted (x ∷ xs) (suc n) d low =
    ap (λ ms. marks_in x ++ ms) (parted xs n d (omega (arith, low)))
    ∙ sym (append_assoc (marks_in x) (flat (take n xs)) (marks_in (slice_index_or xs n d) ++ flat (drop (suc n) xs)))

parted_set : (xs : List MarkedMonitor) (n : ℕ) (y : MarkedMonitor) → n < length xs → flat (slice_set xs n y) ≡ flat (take n xs) ++ (marks_in y ++ flat (drop (suc n) xs))
parted_set [] n y low = absurd (omega (arith, low))
parted_set (x ∷ xs) zero y low = refl
parted_set (x ∷ xs) (suc n) y low =
    ap (λ ms. marks_in x ++ ms) (parted_set xs n y (omega (arith, low)))
    ∙ sym (append_assoc (marks_in x) (flat (take n xs)) (marks_in y ++ flat (drop (suc n) xs)))

parted_gone : (xs : List MarkedMonitor) (n : ℕ) → n < length xs → flat (remove xs n) ≡ flat (take n xs) ++ flat (drop (suc n) xs)
parted_gone [] n low = absurd (omega (arith, low))
parted_gone (x ∷ xs) zero low = refl
parted_gone (x ∷ xs) (suc n) low =
    ap (λ ms. marks_in x ++ ms) (parted_gone xs n (omega (arith, low)))
    ∙ sym (append_assoc (marks_in x) (flat (take n xs)) (flat (drop (suc n) xs)))

module _ (k : Chains) (xs : List MarkedMonitor) (n : ℕ) (x : MarkedMonitor) (low : n < length xs) (at : x ≡ slice_index_or xs n x) (h : IsReady k (flat xs)) where
  abbrev before : List Mark
  before = flat (take n xs)

  abbrev after : List Mark
  after = flat (drop (suc n) xs)

  parts : flat xs ≡ before ++ (marks_in x ++ after)
  parts = parted xs n x low ∙ ap (λ (y : MarkedMonitor). before ++ (marks_in y ++ after)) (sym at)

  ready_parts : IsReady k (before ++ (marks_in x ++ after))
  ready_parts = subst (IsReady k) parts h

  pub ready_one : IsReady k (marks_in x)
  ready_one = ready_part k before (marks_in x) after ready_parts

  pub carried_one : (new : Chains) (y : MarkedMonitor) → Carries k new (marks_in x) (marks_in y) → Carries k new (flat xs) (flat (slice_set xs n y))
  carried_one new y f =
      subst (λ ms. Carries k new ms (flat (slice_set xs n y))) (sym parts)
      (subst (Carries k new (before ++ (marks_in x ++ after))) (sym (parted_set xs n y low)) (carried_among k new before after (marks_in x) (marks_in y) ready_parts f))

  pub moved_one : (new : Chains) (y : MarkedMonitor) → Moves k new (marks_in x) → marks_in y ≡ all_now k (marks_in x) → Carries k new (flat xs) (flat (slice_set xs n y))
  moved_one new y f marks = carried_one new y (subst (Carries k new (marks_in x)) (sym marks) (moved_carried k new (marks_in x) ready_one f))

  pub freed_one : (new : Chains) → Frees k new (marks_in x) → Carries k new (flat xs) (flat (remove xs n))
  freed_one new f =
      subst (λ ms. Carries k new ms (flat (remove xs n))) (sym parts)
      (subst (Carries k new (before ++ (marks_in x ++ after))) (sym (parted_gone xs n low)) (carried_among k new before after (marks_in x) [] ready_parts (freed_carried k new (marks_in x) h.0 f)))

-- what a monitor has becomes another thing, its marks don't
pub same_marks : (xs : List MarkedMonitor) (n : ℕ) (x y : MarkedMonitor) → n < length xs → x ≡ slice_index_or xs n x → marks_in y ≡ marks_in x → flat (slice_set xs n y) ≡ flat xs
same_marks xs n x y low at same =
    parted_set xs n y low
    ∙ ap (λ ms. flat (take n xs) ++ (ms ++ flat (drop (suc n) xs))) (same ∙ ap marks_in at)
    ∙ sym (parted xs n x low)

-- a monitor comes to the end
pub begun_carried : (k new : Chains) (x y : MarkedMonitor) (xs : List MarkedMonitor) → IsReady k (marks_in x ++ flat xs) → Moves k new (marks_in x) → marks_in y ≡ all_now k (marks_in x) → Carries k new (marks_in x ++ flat xs) (flat (xs ++ y ∷ []))
begun_carried k new x y xs h f marks =
    let one : Carries k new (marks_in x) (marks_in y) = subst (Carries k new (marks_in x)) (sym marks) (moved_carried k new (marks_in x) (ready_part k [] (marks_in x) (flat xs) h) f) in
    subst (Carries k new (marks_in x ++ flat xs)) (sym (at_end xs)) (carried_turned k new (marks_in x ++ flat xs) (marks_in y) (flat xs) (carried_among k new [] (flat xs) (marks_in x) (marks_in y) h one))
  where
    at_end : (zs : List MarkedMonitor) → flat (zs ++ y ∷ []) ≡ flat zs ++ marks_in y
    at_end [] = append-nil (marks_in y)
    at_end (z ∷ zs) = ap (λ ms. marks_in z ++ ms) (at_end zs) ∙ sym (append_assoc (marks_in z) (flat zs) (marks_in y))
