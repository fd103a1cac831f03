-- Runs of entries at the front of a rising list, whose keys are less than another key.
use Rattle.std.specs.Prelude.{◌≡◌, ℕ, zero, suc, ◌<◌, ◌≤◌, Bool, T, List, [], ◌∷◌, ◌++◌, length, map, get_or, take, drop}
use mathlib.Core.Path.{refl, sym, ap, subst, ◌∙◌}
use Rattle.std.proofs.Common.{append_assoc, arith}
use Rattle.std.specs.declared.cmp.Ordering.{Ordering}
use Rattle.std.specs.declared.cmp.Ordering.TheVariants.{Less, Equal, Greater}
use Rattle.std.specs.Ordering.{is_lt, ordering_reverse}
use Rattle.std.specs.List.{HoldsAt, list_all}
use Rattle.std.specs.Cmp.{IsTotalOrder}
use Rattle.std.proofs.lemmas.List.{length-drop, take-append-le}
use Rattle.std.specs.List.Sorted.{IsPartitionPoint}
use Rattle.odb_atoms.specs.Atom.{Atom, atom_cmp}
use Rattle.odb_atoms.specs.Represented.Entry.{AreBefore, CopiesRun, Entry, IsFirstBefore, IsRising, merged}
use Rattle.odb_atoms.proofs.Merges.{merged-greater, merged-less}
use Rattle.odb_atoms.specs.Represented.AtomOrder.{atom_cmp_total}
use Rattle.odb_atoms.proofs.Rising.{both, first, front, is_less, less, not_below_tied, second}

-- the keys of these are less than that one
abbrev are_less : List Entry → Atom → Bool
are_less es k = list_all (λ e. is_lt (atom_cmp e.0 k)) es

less_isnt_equal : (r : Ordering) → T (is_lt r) → r ≡ Equal → {A : Type 0} → A
less_isnt_equal r h e = absurd (subst (λ s. T (is_lt s)) e h)

less_isnt_greater : (r : Ordering) → T (is_lt r) → r ≡ Greater → {A : Type 0} → A
less_isnt_greater r h e = absurd (subst (λ s. T (is_lt s)) e h)

module _ {X : Type 0} (f : X → Entry) (k : Atom) where
  -- those before the one that ties
  before_tie : (o : IsTotalOrder atom_cmp) (xs : List X) (i : ℕ) (d : X) → IsRising (map f xs) → i < length xs → atom_cmp (f (get_or xs i d)).0 k ≡ Equal → AreBefore (take i (map f xs)) k
  before_tie o xs zero d up low at = tt
  before_tie o [] (suc i) d up low at = absurd (omega arith)
  before_tie o (x ∷ xs) (suc i) d up low at = both _ _ (is_less (not_below_tied o f k (f x).0 xs i d (omega arith) at (first _ _ up))) (before_tie o xs i d (second _ _ up) (omega arith) at)

  pub before_tied : (o : IsTotalOrder atom_cmp) (xs : List X) (i : ℕ) → IsRising (map f xs) → i < length xs → HoldsAt (λ y. atom_cmp (f y).0 k ≡ Equal) xs i → AreBefore (take i (map f xs)) k
  before_tied o [] i up low at = absurd (omega arith)
  before_tied o (x ∷ xs) i up low at = before_tie o (x ∷ xs) i x up low (at x)

  -- those before a place, where each is less
  before_place : (xs : List X) (i : ℕ) → i ≤ length xs → ((j : ℕ) (d : X) → j < i → atom_cmp (f (get_or xs j d)).0 k ≡ Less) → AreBefore (take i (map f xs)) k
  before_place xs zero low each = tt
  before_place [] (suc i) low each = absurd (omega arith)
  before_place (x ∷ xs) (suc i) low each = both _ _ (is_less (each zero x (omega arith))) (before_place xs i (omega arith) (λ j d h. each (suc j) d (omega arith)))

  abbrev Parts : List X → ℕ → Type 0
  Parts = IsPartitionPoint (λ y. atom_cmp (f y).0 k ≡ Less) (λ y. atom_cmp (f y).0 k ≡ Greater)

  pub before_missed : (xs : List X) (i : ℕ) → i ≤ length xs → Parts xs i → AreBefore (take i (map f xs)) k
  before_missed xs i low parts = before_place xs i low (λ j d h. parts.0 j d (omega arith) h)

  -- one that ties isn't the first, where that is less
  some_tie : (xs : List X) (i : ℕ) (d : X) → i < length xs → atom_cmp (f (get_or xs i d)).0 k ≡ Equal → IsFirstBefore (map f xs) k → 1 ≤ i
  some_tie [] i d low at h = absurd (omega arith)
  some_tie (x ∷ xs) zero d low at h = less_isnt_equal _ (first _ _ h.0) at
  some_tie (x ∷ xs) (suc i) d low at h = omega arith

  pub some_tied : (xs : List X) (i : ℕ) → i < length xs → HoldsAt (λ y. atom_cmp (f y).0 k ≡ Equal) xs i → IsFirstBefore (map f xs) k → 1 ≤ i
  some_tied [] i low at h = absurd (omega arith)
  some_tied (x ∷ xs) i low at h = some_tie (x ∷ xs) i x low (at x) h

  -- a place from which on each is greater isn't the first, where that is less
  pub some_missed : (xs : List X) (i : ℕ) → Parts xs i → IsFirstBefore (map f xs) k → 1 ≤ i
  some_missed [] i parts h = absurd (omega (arith, h.1))
  some_missed (x ∷ xs) zero parts h = less_isnt_greater _ (first _ _ h.0) (parts.1 zero x (omega arith) (omega arith))
  some_missed (x ∷ xs) (suc i) parts h = omega arith

-- ---- a merge passes over a run

back : {K : Type 0} {R : K → K → Ordering} → IsTotalOrder R → (x y : K) → R x y ≡ Less → R y x ≡ Greater
back o x y p = o.antisymm y x ∙ ap ordering_reverse p

run_less : (run left : List Entry) (y : Entry) (ys : List Entry) → AreBefore run y.0 → merged (run ++ left) (y ∷ ys) ≡ run ++ merged left (y ∷ ys)
run_less [] left y ys h = refl
run_less (x ∷ run) left y ys h = merged-less x (run ++ left) y ys (less _ (first _ _ h)) ∙ ap (λ zs. x ∷ zs) (run_less run left y ys (second _ _ h))

run_greater : (x : Entry) (xs run left : List Entry) → AreBefore run x.0 → merged (x ∷ xs) (run ++ left) ≡ run ++ merged (x ∷ xs) left
run_greater x xs [] left h = refl
run_greater x xs (y ∷ run) left h =
    merged-greater x xs y (run ++ left) (back atom_cmp_total y.0 x.0 (less _ (first _ _ h))) ∙ ap (λ zs. y ∷ zs) (run_greater x xs run left (second _ _ h))

after_run : (run left whole : List Entry) → whole ≡ run ++ left → IsRising whole → IsRising left
after_run run left whole is up = by run left (subst IsRising is up)
  where
    by : (run left : List Entry) → IsRising (run ++ left) → IsRising left
    by [] left up = up
    by (x ∷ run) left up = by run left (second _ _ up)

module _ {X : Type 0} (f : X → Entry) where
  map-take : (xs : List X) (n : ℕ) → map f (take n xs) ≡ take n (map f xs)
  map-take xs zero = refl
  map-take [] (suc n) = refl
  map-take (x ∷ xs) (suc n) = ap (λ zs. f x ∷ zs) (map-take xs n)

  cut : (xs : List X) (n : ℕ) → map f xs ≡ map f (take n xs) ++ map f (drop n xs)
  cut xs zero = refl
  cut [] (suc n) = refl
  cut (x ∷ xs) (suc n) = ap (λ zs. f x ∷ zs) (cut xs n)

  -- where a run of the slice at the front is copied, and passed over
  pub copied_run : (k : Atom) (xs front more left : List X) (n : ℕ) (before after : List Entry) → xs ≡ front ++ more → n ≤ length front → left ≡ drop n xs → AreBefore (take n (map f front)) k → after ≡ before ++ map f (take n front) → CopiesRun k (map f xs) (map f left) before after
  copied_run k xs front more left n before after is low is_left less is_after =
      let same : take n xs ≡ take n front = ap (take n) is ∙ take-append-le n front more low in
      record {
        run = take n (map f front);
        front = cut xs n ∙ (λ i. map f (same i) ++ map f (sym is_left i)) ∙ ap (λ zs. zs ++ map f left) (map-take front n);
        less = less;
        appended = is_after ∙ ap (λ zs. before ++ zs) (map-take front n);
      }

  pub first_in_front : (k : Atom) (xs front more : List X) → xs ≡ front ++ more → (front ≡ [] → xs ≡ []) → IsFirstBefore (map f xs) k → IsFirstBefore (map f front) k
  first_in_front k xs [] more is all h = absurd (none (ap (map f) (all refl)) h.1)
    where
      none : {es : List Entry} → es ≡ [] → 1 ≤ length es → ⊥
      none e long = omega (arith, subst (λ es. 1 ≤ length es) e long)
  first_in_front k xs (x ∷ front) more is all h = (subst (λ es. AreBefore (take 1 es) k) (ap (map f) is) h.0, omega arith)

  pub fewer_left : (k : Atom) (xs left : List X) (n : ℕ) → 1 ≤ n → left ≡ drop n xs → IsFirstBefore (map f xs) k → length left < length xs
  fewer_left k [] left n some is h = absurd (omega (arith, h.1))
  fewer_left k (x ∷ xs) left n some is h = subst (λ ys. length ys < length (x ∷ xs)) (sym is) (subst (λ m. m < length (x ∷ xs)) (sym (length-drop n (x ∷ xs))) (omega (arith, some)))

  pub first_before : (k : Atom) (xs : List X) (x : X) → xs ≡ x ∷ drop 1 xs → atom_cmp (f x).0 k ≡ Less → IsFirstBefore (map f xs) k
  first_before k xs x is before = subst (λ es. IsFirstBefore es k) (sym (ap (map f) is)) (both _ _ (is_less before) tt, omega arith)

  pub run_rises : (k : Atom) (xs left : List X) (before after : List Entry) → CopiesRun k (map f xs) (map f left) before after → IsRising (map f xs) → IsRising (map f left)
  run_rises k xs left before after copies up = after_run copies.run (map f left) (map f xs) copies.front up

  -- the step of a merge in which the first list goes on by a run, and that in which the second does
  pub step_less : (xs left ns : List X) (n : X) (before after whole : List Entry) → ns ≡ n ∷ drop 1 ns → CopiesRun (f n).0 (map f xs) (map f left) before after → before ++ merged (map f xs) (map f ns) ≡ whole → after ++ merged (map f left) (map f ns) ≡ whole
  step_less xs left ns n before after whole is copies was =
      let ms : List Entry = map f (drop 1 ns) in
      subst (λ ys. before ++ merged (map f xs) (map f ys) ≡ whole → after ++ merged (map f left) (map f ys) ≡ whole) (sym is) (λ was.
      ap (λ zs. zs ++ merged (map f left) (f n ∷ ms)) copies.appended
      ∙ append_assoc before copies.run (merged (map f left) (f n ∷ ms))
      ∙ ap (λ zs. before ++ zs) (sym (run_less copies.run (map f left) (f n) ms copies.less) ∙ ap (λ zs. merged zs (f n ∷ ms)) (sym copies.front))
      ∙ was) was

  pub step_greater : (xs ns left : List X) (x : X) (before after whole : List Entry) → xs ≡ x ∷ drop 1 xs → CopiesRun (f x).0 (map f ns) (map f left) before after → before ++ merged (map f xs) (map f ns) ≡ whole → after ++ merged (map f xs) (map f left) ≡ whole
  step_greater xs ns left x before after whole is copies was =
      let ms : List Entry = map f (drop 1 xs) in
      subst (λ ys. before ++ merged (map f ys) (map f ns) ≡ whole → after ++ merged (map f ys) (map f left) ≡ whole) (sym is) (λ was.
      ap (λ zs. zs ++ merged (f x ∷ ms) (map f left)) copies.appended
      ∙ append_assoc before copies.run (merged (f x ∷ ms) (map f left))
      ∙ ap (λ zs. before ++ zs) (sym (run_greater (f x) ms copies.run (map f left) copies.less) ∙ ap (merged (f x ∷ ms)) (sym copies.front))
      ∙ was) was
