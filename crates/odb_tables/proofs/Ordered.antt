-- Entries of a finite map with identifiers for its keys, in another order; and in that of their keys they are the map's own.
use Rattle.std.proofs.Common.{◌≡◌, ◌+◌, ◌<◌, Bool, true, false, cond, ◌&&◌, ◌||◌, List, [], ◌∷◌, length, map, get_or, Option, Some, None, is_some, IsPermutation, refl, sym, ap, ◌∙◌, arith}
use lib.Dec.{T}
use mathlib.Core.Bool.{true≢false}
use Rattle.std.proofs.lemmas.List.{get_or-map, length-map}
use Rattle.std.proofs.lemmas.List.Elements.{All-from_recursion, recursion_from_All}
use Rattle.std.proofs.lemmas.List.Sorted.{All-permutation, IsPermutation-map, list_any-IsPermutation}
use Rattle.std.proofs.lemmas.Map.Keys.{IsDistinct-IsPermutation, IsDistinct-head, IsDistinct-tail, apart_from_distinct, sorted_from_all_adjacent, sorted_head, sorted_tail}
use Rattle.std.specs.FinMap.Entries.{below_all, find, is_sorted, same_entries}
use Rattle.std.specs.List.{AllByRecursion, IsDistinct, list_any}
use Rattle.std.specs.List.Sorted.{IsSortedByKey, IsStrictlySortedBy}
use Rattle.std.specs.Map.{keys_of}
use Rattle.std.specs.declared.cmp.Ordering.{Ordering}
use Rattle.std.specs.declared.cmp.Ordering.TheVariants.{Less, Equal, Greater}
use Rattle.std.specs.Ordering.{eq_by_cmp, is_eq, is_lt, ordering_reverse}
use Rattle.odb_atoms.specs.FinMap as finite
use Rattle.odb_atoms.specs.Uuid.{Uuid, uuid_cmp}
use Rattle.odb_atoms.proofs.Atoms.{uuid_cmp-IsAntisymmetric}
use Rattle.odb_atoms.proofs.FinMaps.{get-entries, same_key}
use Rattle.odb_atoms.proofs.Rising.{is_less}
use Rattle.odb_tables.specs.Represented.Key.{keys_equivalent, uuid_cmp_total}

abbrev pub AreDistinct : {X : Type 0} → List (Uuid × X) → Type 0
AreDistinct es = IsDistinct (eq_by_cmp uuid_cmp) (keys_of es)

-- ---- entries in another order

module _ {Y : Type 0} (m : finite.FinMap uuid_cmp Y) where
  -- the entry is one of the map
  abbrev Stands : Uuid × Y → Type 0
  Stands e = finite.get m e.0 ≡ Some e.1

  named : Uuid → List (Uuid × Y) → Bool
  named q es = list_any (eq_by_cmp uuid_cmp q) (keys_of es)

  none_of : (o : Option Y) → false ≡ is_some o → None ≡ o
  none_of None e = refl
  none_of (Some y) e = absurd (true≢false (sym e))

  -- where only entries of the map stand, and each of its keys is named
  found_among : (es : List (Uuid × Y)) (q : Uuid) → AllByRecursion Stands es → named q es ≡ is_some (finite.get m q) → find uuid_cmp q es ≡ finite.get m q
  unfolding named
  found_among [] q h n = none_of (finite.get m q) n
  found_among (e ∷ es) q h n = by (eq_by_cmp uuid_cmp q e.0) refl n (found_among es q h.1)
    where
      by : (b : Bool) → eq_by_cmp uuid_cmp q e.0 ≡ b → (b || named q es) ≡ is_some (finite.get m q) → (named q es ≡ is_some (finite.get m q) → find uuid_cmp q es ≡ finite.get m q) → cond b (Some e.1) (find uuid_cmp q es) ≡ finite.get m q
      by true is n rest = sym h.0 ∙ ap (finite.get m) (sym (same_key uuid_cmp-IsAntisymmetric q e.0 is))
      by false is n rest = rest n

  later : (h : Uuid × Y) (xs es : List (Uuid × Y)) → AllByRecursion (λ y. eq_by_cmp uuid_cmp h.0 y ≡ false) (keys_of es) → AllByRecursion (λ e. find uuid_cmp e.0 xs ≡ Some e.1) es
      → AllByRecursion (λ e. cond (eq_by_cmp uuid_cmp e.0 h.0) (Some h.1) (find uuid_cmp e.0 xs) ≡ Some e.1) es
  later h xs [] a f = tt
  later h xs (e ∷ es) a f = (ap (λ b. cond b (Some h.1) (find uuid_cmp e.0 xs)) (keys_equivalent.symm e.0 h.0 ∙ a.0) ∙ f.0, later h xs es a.1 f.1)

  each_found : (es : List (Uuid × Y)) → AreDistinct es → AllByRecursion (λ e. find uuid_cmp e.0 es ≡ Some e.1) es
  each_found [] d = tt
  each_found (e ∷ es) d = (
    ap (λ b. cond b (Some e.1) (find uuid_cmp e.0 es)) (keys_equivalent.refl e.0),
    later e es es (IsDistinct-head (eq_by_cmp uuid_cmp) e.0 (keys_of es) d) (each_found es (IsDistinct-tail (eq_by_cmp uuid_cmp) e.0 (keys_of es) d)),
  )

  stand : (es fs : List (Uuid × Y)) → ((q : Uuid) → find uuid_cmp q es ≡ finite.get m q) → AllByRecursion (λ e. find uuid_cmp e.0 es ≡ Some e.1) fs → AllByRecursion Stands fs
  stand es [] is h = tt
  stand es (f ∷ fs) is h = (sym (is f.0) ∙ h.0, stand es fs is h.1)

  find_named : (es : List (Uuid × Y)) (q : Uuid) → named q es ≡ is_some (find uuid_cmp q es)
  unfolding named
  find_named [] q = refl
  find_named (e ∷ es) q = by (eq_by_cmp uuid_cmp q e.0) (find_named es q)
    where
      by : (b : Bool) → named q es ≡ is_some (find uuid_cmp q es) → (b || named q es) ≡ is_some (cond b (Some e.1) (find uuid_cmp q es))
      by true rest = refl
      by false rest = rest

  pub moved : (es fs : List (Uuid × Y)) → AreDistinct es → ((q : Uuid) → find uuid_cmp q es ≡ finite.get m q) → IsPermutation es fs → (q : Uuid) → find uuid_cmp q fs ≡ finite.get m q
  unfolding named
  moved es fs d is p q =
      found_among fs q (recursion_from_All Stands fs (All-permutation Stands es fs p (All-from_recursion Stands es (stand es es is (each_found es d)))))
      (sym (list_any-IsPermutation (eq_by_cmp uuid_cmp q) (keys_of es) (keys_of fs) (IsPermutation-map (λ (e : Uuid × Y). e.0) es fs p)) ∙ find_named es q ∙ ap is_some (is q))

-- ---- entries that are sorted

next : (r : Ordering) → is_lt (ordering_reverse r) ≡ false → is_eq r ≡ false → r ≡ Less
next Less e f = refl
next Equal e f = absurd (true≢false f)
next Greater e f = absurd (true≢false e)

pub rising-none : IsStrictlySortedBy uuid_cmp []
unfolding IsStrictlySortedBy
rising-none = tt

pub rises : (us : List Uuid) → IsSortedByKey (λ u. u) uuid_cmp us → IsDistinct (eq_by_cmp uuid_cmp) us → IsStrictlySortedBy uuid_cmp us
rises [] up apart = rising-none
rises (u ∷ us) up apart =
    sorted_from_all_adjacent uuid_cmp_total (u ∷ us) u
    (λ k low.
    let a = get_or (u ∷ us) k u in
    let b = get_or (u ∷ us) (k + 1) u in
    next (uuid_cmp a b) (ap is_lt (sym (uuid_cmp_total.antisymm b a)) ∙ up k u (omega arith) low) (apart_from_distinct (eq_by_cmp uuid_cmp) (u ∷ us) k (k + 1) u apart (omega arith) low))

pub ranked : {X : Type 0} (f : X → Uuid) (xs : List X) → IsSortedByKey f uuid_cmp xs → IsSortedByKey (λ u. u) uuid_cmp (map f xs)
ranked f [] up = λ k d low high. absurd (omega (arith, high))
ranked f (x ∷ xs) up = λ k d low high.
    let long : k + 1 < length (x ∷ xs) = omega (arith, length-map (x ∷ xs) f, high) in
    (λ i. is_lt (uuid_cmp (get_or-map f (x ∷ xs) (k + 1) x d long i) (get_or-map f (x ∷ xs) k x d (omega (arith, long)) i))) ∙ up k x low long

both : (a b : Bool) → T a → T b → T (a && b)
both true b p q = q
both false b p q = p

below : {Y : Type 0} (u : Uuid) (es : List (Uuid × Y)) → AllByRecursion (λ y. uuid_cmp u y ≡ Less) (keys_of es) → T (below_all uuid_cmp u es)
below u [] h = tt
below u (e ∷ es) h = both _ _ (is_less h.0) (below u es h.1)

pub sorted : {Y : Type 0} (es : List (Uuid × Y)) → IsStrictlySortedBy uuid_cmp (keys_of es) → T (is_sorted uuid_cmp es)
sorted [] h = tt
sorted (e ∷ es) h = both _ _ (below e.0 es (sorted_head uuid_cmp e.0 (keys_of es) h)) (sorted es (sorted_tail uuid_cmp e.0 (keys_of es) h))

pub ranked_entries : {X Y : Type 0} (f : X → Uuid × Y) (ys : List X) → IsSortedByKey (λ x. (f x).0) uuid_cmp ys → IsSortedByKey (λ (e : Uuid × Y). e.0) uuid_cmp (map f ys)
ranked_entries f [] up = λ k d low high. absurd (omega (arith, high))
ranked_entries f (x ∷ xs) up = λ k d low high.
    let long : k + 1 < length (x ∷ xs) = omega (arith, length-map (x ∷ xs) f, high) in
    (λ i. is_lt (uuid_cmp (get_or-map f (x ∷ xs) (k + 1) x d long i).0 (get_or-map f (x ∷ xs) k x d (omega (arith, long)) i).0)) ∙ up k x low long

-- entries that answer as a map does, once they are sorted, are those of the map
pub in_order : {X Y : Type 0} (f : X → Uuid × Y) (m : finite.FinMap uuid_cmp Y) (xs ys : List X) → AreDistinct (map f xs) → ((q : Uuid) → find uuid_cmp q (map f xs) ≡ finite.get m q)
    → IsPermutation xs ys → IsSortedByKey (λ x. (f x).0) uuid_cmp ys → map f ys ≡ m.entries
in_order f m xs ys d is p up =
    let es = map f xs in
    let fs = map f ys in
    let q : IsPermutation es fs = IsPermutation-map f xs ys p in
    let apart : AreDistinct fs = IsDistinct-IsPermutation (eq_by_cmp uuid_cmp) keys_equivalent.symm (keys_of es) (keys_of fs) (IsPermutation-map (λ e. e.0) es fs q) d in
    same_entries uuid_cmp uuid_cmp_total uuid_cmp-IsAntisymmetric fs m.entries
    (sorted fs (rises (keys_of fs) (ranked (λ e. e.0) fs (ranked_entries f ys up)) apart)) m.sorted
    (λ k. moved m es fs d is q k ∙ get-entries m k)
