-- Lists of entries whose keys strictly rise: what is found in them.
use Rattle.std.specs.Prelude.{◌≡◌, ◌≢◌, ℕ, zero, suc, ◌<◌, ◌≤◌, Bool, true, false, cond, ◌&&◌, T, List, [], ◌∷◌, length, map, get_or, take, drop, ◌-◌, is_some, Option, Some, None}
use mathlib.Core.Path.{refl, sym, ap, subst, ◌∙◌}
use mathlib.Core.Bool.{true≢false}
use Rattle.std.proofs.Common.{add-one, arith, ⊎_elim}
use Rattle.std.proofs.lemmas.Bool.{cases_lt}
use Rattle.std.proofs.lemmas.List.{take_all}
use Rattle.std.specs.declared.cmp.Ordering.{Ordering}
use Rattle.std.specs.declared.cmp.Ordering.TheVariants.{Less, Equal, Greater}
use Rattle.std.specs.Ordering.{eq_by_cmp, is_eq, is_lt, ordering_index, ordering_reverse}
use Rattle.std.specs.Cmp.{IsTotalOrder, Equal-is, alike_right, tied_back}
use Rattle.std.specs.FinMap.Entries.{below_all, find, is_sorted}
use Rattle.std.specs.List.Sorted.{IsNonDecreasingBy, IsPartitionPoint}
use Rattle.std.proofs.lemmas.List.Sorted.{searchable_from_sorted}

pub none_of : {A : Type 0} (o : Option A) → is_some o ≡ false → o ≡ None
none_of None e = refl
none_of (Some x) e = absurd (true≢false e)

pub is_true : (b : Bool) → T b → b ≡ true
is_true true h = refl
is_true false h = absurd h

pub both : (a b : Bool) → T a → T b → T (a && b)
both true b p q = q
both false b p q = p

pub first : (a b : Bool) → T (a && b) → T a
first true b p = tt
first false b p = p

pub second : (a b : Bool) → T (a && b) → T b
second true b p = p
second false b p = absurd p

pub less : (r : Ordering) → T (is_lt r) → r ≡ Less
less Less p = refl
less Equal p = absurd p
less Greater p = absurd p

pub is_less : {r : Ordering} → r ≡ Less → T (is_lt r)
is_less e = subst (λ r. T (is_lt r)) (sym e) tt

pub equal : (r : Ordering) → is_eq r ≡ true → r ≡ Equal
equal r e = (Equal-is r).0 e

pub not_equal : (r : Ordering) → is_eq r ≡ true → r ≢ Less
not_equal r e p = true≢false (sym e ∙ ap is_eq p)

pub turned : {K : Type 0} {R : K → K → Ordering} → IsTotalOrder R → (x y : K) → R x y ≡ Greater → R y x ≡ Less
turned o x y p = o.antisymm y x ∙ ap ordering_reverse p

module _ {K V : Type 0} {R : K → K → Ordering} (o : IsTotalOrder R) where
  pub before_all : (x y : K) (es : List (K × V)) → R x y ≡ Less → T (below_all R y es) → T (below_all R x es)
  before_all x y [] p h = tt
  before_all x y (e ∷ es) p h = both _ _ (is_less (o.trans x y e.0 p (less _ (first _ _ h)))) (before_all x y es p (second _ _ h))

  pub tied_before_all : (x y : K) (es : List (K × V)) → R x y ≡ Equal → T (below_all R y es) → T (below_all R x es)
  tied_before_all x y [] p h = tt
  tied_before_all x y (e ∷ es) p h = both _ _ (subst (λ r. T (is_lt r)) (sym (o.congr x y e.0 p)) (first _ _ h)) (tied_before_all x y es p (second _ _ h))

  -- a key below each key is not found
  pub find-below : (q : K) (es : List (K × V)) → T (below_all R q es) → find R q es ≡ None
  find-below q [] h = refl
  find-below q (e ∷ es) h = ap (λ r. cond (is_eq r) (Some e.1) (find R q es)) (less _ (first _ _ h)) ∙ find-below q es (second _ _ h)

  module _ {X : Type 0} (f : X → K × V) where
    -- an element that ties is not below all of the list that it stands in
    pub not_below_tied : (q k : K) (xs : List X) (i : ℕ) (d : X) → i < length xs → R (f (get_or xs i d)).0 q ≡ Equal → T (below_all R k (map f xs)) → R k q ≡ Less
    not_below_tied q k [] i d low at h = absurd (omega arith)
    not_below_tied q k (x ∷ xs) zero d low at h = sym (alike_right o (f x).0 q k at) ∙ less _ (first _ _ h)
    not_below_tied q k (x ∷ xs) (suc i) d low at h = not_below_tied q k xs i d (omega arith) at (second _ _ h)

    -- the element that ties with the key is the one that is found
    pub find-tied : (q : K) (xs : List X) (i : ℕ) (d : X) → T (is_sorted R (map f xs)) → i < length xs → R (f (get_or xs i d)).0 q ≡ Equal → find R q (map f xs) ≡ Some (f (get_or xs i d)).1
    find-tied q [] i d up low at = absurd (omega arith)
    find-tied q (x ∷ xs) zero d up low at = ap (λ r. cond (is_eq r) (Some (f x).1) (find R q (map f xs))) (tied_back o (f x).0 q at)
    find-tied q (x ∷ xs) (suc i) d up low at =
        let before = not_below_tied q (f x).0 xs i d (omega arith) at (first _ _ up) in
        ap (λ r. cond (is_eq r) (Some (f x).1) (find R q (map f xs))) (o.antisymm q (f x).0 ∙ ap ordering_reverse before)
        ∙ find-tied q xs i d (second _ _ up) (omega arith) at

    -- a key that ties with no element is not found
    pub find-absent : (q : K) (xs : List X) → ((i : ℕ) (d : X) → i < length xs → R (f (get_or xs i d)).0 q ≢ Equal) → find R q (map f xs) ≡ None
    find-absent q [] apart = refl
    find-absent q (x ∷ xs) apart = by (find-absent q xs (λ i d low. apart (suc i) d (omega arith))) (eq_by_cmp R q (f x).0) refl
      where
        by : find R q (map f xs) ≡ None → (b : Bool) → eq_by_cmp R q (f x).0 ≡ b → cond b (Some (f x).1) (find R q (map f xs)) ≡ None
        by rest true e = absurd (apart 0 x (omega arith) (tied_back o q (f x).0 (equal _ e)))
        by rest false e = rest

    -- neighbours rise
    is_sorted-next : (xs : List X) → T (is_sorted R (map f xs)) → (k : ℕ) (d : X) → suc k < length xs → is_lt (R (f (get_or xs (suc k) d)).0 (f (get_or xs k d)).0) ≡ false
    is_sorted-next [] up k d low = absurd (omega arith)
    is_sorted-next (x ∷ []) up k d low = absurd (omega arith)
    is_sorted-next (x ∷ y ∷ ys) up zero d low = ap is_lt (o.antisymm (f y).0 (f x).0 ∙ ap ordering_reverse (less _ (first _ _ (first _ _ up))))
    is_sorted-next (x ∷ y ∷ ys) up (suc k) d low = is_sorted-next (y ∷ ys) (second _ _ up) k d (omega arith)

    -- what a binary search asks
    pub searchable : (q : K) (xs : List X) → T (is_sorted R (map f xs)) → IsNonDecreasingBy (λ x. ordering_index (R (f x).0 q)) xs
    searchable q xs up = searchable_from_sorted o (λ x. (f x).0) xs q (λ k d _ low. rw add-one (is_sorted-next xs up k d (omega arith)))

    -- where a binary search found no place, the key is not there
    pub find-missed : (q : K) (xs : List X) (i : ℕ) → IsPartitionPoint (λ x. R (f x).0 q ≡ Less) (λ x. R (f x).0 q ≡ Greater) xs i → find R q (map f xs) ≡ None
    find-missed q xs i apart = find-absent q xs (λ k d low same. ⊎_elim (λ before. not_equal _ (ap is_eq same) (apart.0 k d (omega arith) before)) (λ after. true≢false (sym (ap is_eq same) ∙ ap is_eq (apart.1 k d after low))) (cases_lt k i))

-- a list whose first element is known
pub front : {X : Type 0} (xs : List X) (x : X) → 1 ≤ length xs → x ≡ get_or xs 0 x → xs ≡ x ∷ take (length xs - 1) (drop 1 xs)
front [] x long is = absurd (omega arith)
front (y ∷ ys) x long is = λ i. sym is i ∷ sym (take_all (length (y ∷ ys) - 1) ys (omega arith)) i
