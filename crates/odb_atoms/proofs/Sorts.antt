-- Lists of entries that were sorted by their keys: whether the keys strictly rise, and whether one stands twice.
use Rattle.std.specs.Prelude.{◌≡◌, ◌≢◌, ℕ, zero, suc, ◌+◌, ◌<◌, ◌≤◌, Bool, true, false, cond, not, ◌&&◌, ◌||◌, nat_lt, T, List, [], ◌∷◌, length, map, get_or, IsPermutation}
use mathlib.Core.Path.{refl, sym, ap, subst, ◌∙◌}
use mathlib.Core.Bool.{true≢false}
use Rattle.std.proofs.lemmas.Bool.{le-ltb, lt-ltb, ltb-false, ltb-true}
use Rattle.std.proofs.Common.{add-one, arith}
use Rattle.std.proofs.lemmas.List.Sorted.{IsPermutation-map, length_permutation, list_any-IsPermutation}
use Rattle.std.specs.declared.cmp.Ordering.{Ordering}
use Rattle.std.specs.declared.cmp.Ordering.TheVariants.{Less, Equal, Greater}
use Rattle.std.specs.List.{IsAllAdjacentAnswer, list_any}
use Rattle.std.specs.Ordering.{eq_by_cmp, is_eq, is_lt, ordering_reverse}
use Rattle.std.specs.Cmp.{IsTotalOrder}
use Rattle.std.specs.FinMap.Entries.{below_all, is_sorted, length-put}
use Rattle.odb_atoms.specs.FinSet as set
use Rattle.odb_atoms.specs.FinMap as finite
use Rattle.odb_atoms.specs.Atom.{Atom, atom_cmp}
use Rattle.odb_atoms.specs.Members.{repeats}
use Rattle.odb_atoms.specs.Represented.Entry.{Entry, keys_of}
use Rattle.odb_atoms.specs.Value.{Atoms, atoms}
use Rattle.odb_atoms.proofs.Atoms.{atom_cmp-IsAntisymmetric}
use Rattle.odb_atoms.specs.Represented.AtomOrder.{atom_cmp_total}
use Rattle.odb_atoms.proofs.FinMaps.{entries-insert}
use Rattle.odb_atoms.proofs.FinSets.{contains-from_list, same_set}
use Rattle.odb_atoms.proofs.Rising.{before_all, both, first, is_less, is_true, less, second, turned}

not_less : {r : Ordering} → r ≡ Less → is_lt r ≢ false
not_less e f = true≢false (sym (ap is_lt e) ∙ f)

module _ {X K V : Type 0} {R : K → K → Ordering} (o : IsTotalOrder R) (f : X → K × V) where
  -- keys that rise from each to the next rise
  rising-adjacent : (xs : List X) → ((k : ℕ) (d : X) → suc k < length xs → R (f (get_or xs k d)).0 (f (get_or xs (suc k) d)).0 ≡ Less) → T (is_sorted R (map f xs))
  rising-adjacent [] up = tt
  rising-adjacent (x ∷ []) up = tt
  rising-adjacent (x ∷ y ∷ ys) up =
      let rest = rising-adjacent (y ∷ ys) (λ k d low. up (suc k) d (omega arith)) in
      let next = up 0 x (omega arith) in
      both _ _ (both _ _ (is_less next) (before_all o (f x).0 (f y).0 (map f ys) next (first _ _ rest))) rest

  next-rising : (xs : List X) → T (is_sorted R (map f xs)) → (k : ℕ) (d : X) → suc k < length xs → R (f (get_or xs k d)).0 (f (get_or xs (suc k) d)).0 ≡ Less
  next-rising [] up k d low = absurd (omega arith)
  next-rising (x ∷ []) up k d low = absurd (omega arith)
  next-rising (x ∷ y ∷ ys) up zero d low = less _ (first _ _ (first _ _ up))
  next-rising (x ∷ y ∷ ys) up (suc k) d low = next-rising (y ∷ ys) (second _ _ up) k d (omega arith)

  apart : (xs : List X) (k : ℕ) (d : X) → k + 1 < length xs → false ≡ is_lt (R (f (get_or xs k d)).0 (f (get_or xs (k + 1) d)).0) → is_sorted R (map f xs) ≡ true → ⊥
  apart xs k d low differ e =
      let differ' : false ≡ is_lt (R (f (get_or xs k d)).0 (f (get_or xs (suc k) d)).0) = rw add-one at differ in
      not_less (next-rising xs (subst T (sym e) tt) k d (omega arith)) (sym differ')

  -- a test of each element and the next decides whether the keys rise
  pub rising-answer : (xs : List X) (r : Bool) → IsAllAdjacentAnswer (λ x y b. b ≡ is_lt (R (f x).0 (f y).0)) xs r → r ≡ is_sorted R (map f xs)
  rising-answer xs true h =
      sym (is_true _ (rising-adjacent xs (λ k d low. let next : true ≡ is_lt (R (f (get_or xs k d)).0 (f (get_or xs (suc k) d)).0) = rw add-one at (h k d (omega arith)) in less _ (subst T next tt))))
  rising-answer [] false h = absurd (omega (arith, h.1))
  rising-answer (x ∷ xs) false h = by (is_sorted R (map f (x ∷ xs))) refl
    where
      by : (b : Bool) → is_sorted R (map f (x ∷ xs)) ≡ b → false ≡ b
      by true e = absurd (apart (x ∷ xs) h.0 x h.1 (h.2 x) e)
      by false e = refl

-- ---- whether a key stands twice

-- no key is before e's
abbrev NoneBefore : Entry → List Entry → Type 0
NoneBefore e [] = Unit {0}
NoneBefore e (f ∷ fs) = (is_lt (atom_cmp f.0 e.0) ≡ false) × NoneBefore e fs

-- no key is before an earlier one
abbrev pub IsOrdered : List Entry → Type 0
IsOrdered [] = Unit {0}
IsOrdered (e ∷ es) = NoneBefore e es × IsOrdered es

below_all-none : (e : Entry) (es : List Entry) → NoneBefore e es → below_all atom_cmp e.0 es ≡ not (list_any (eq_by_cmp atom_cmp e.0) (keys_of es))
below_all-none e [] h = refl
below_all-none e (f ∷ fs) h = by (atom_cmp e.0 f.0) refl (below_all-none e fs h.1)
  where
    by : (r : Ordering) → atom_cmp e.0 f.0 ≡ r → below_all atom_cmp e.0 fs ≡ not (list_any (eq_by_cmp atom_cmp e.0) (keys_of fs)) → (is_lt r && below_all atom_cmp e.0 fs) ≡ not (is_eq r || list_any (eq_by_cmp atom_cmp e.0) (keys_of fs))
    by Less p rest = rest
    by Equal p rest = refl
    by Greater p rest = absurd (not_less (turned atom_cmp_total e.0 f.0 p) h.0)

-- a set grows by an element that it does not have
len-insert : (s : Atoms) (k : Atom) → set.len (set.insert s k) ≡ cond (set.contains s k) (set.len s) (set.len s + 1)
unfolding finite.len finite.get
len-insert s k = ap length (entries-insert atom_cmp_total s k tt) ∙ length-put atom_cmp atom_cmp_total k tt s.entries s.sorted

counted : (a b : Bool) (l n m : ℕ) → l ≤ n → nat_lt l n ≡ not b → m ≡ cond a l (l + 1) → (m ≤ suc n) × (nat_lt m (suc n) ≡ not (not a && b))
counted true b l n m fits is size = (omega arith, lt-ltb m (suc n) (omega arith))
counted false true l n m fits is size = let full = ltb-false l n is in (omega arith, le-ltb m (suc n) (omega arith))
counted false false l n m fits is size = let room = ltb-true l n is in (omega arith, lt-ltb m (suc n) (omega arith))

-- of ordered entries a key stands twice where they do not rise
repeats-counted : (es : List Entry) → IsOrdered es → (set.len (atoms (keys_of es)) ≤ length (keys_of es)) × (repeats (keys_of es) ≡ not (is_sorted atom_cmp es))
unfolding finite.len finite.empty
repeats-counted [] h = (omega arith, refl)
repeats-counted (e ∷ es) h =
    let rest = repeats-counted es h.1 in
    let twice = list_any (eq_by_cmp atom_cmp e.0) (keys_of es) in
    let size = len-insert (atoms (keys_of es)) e.0 ∙ ap (λ b. cond b (set.len (atoms (keys_of es))) (set.len (atoms (keys_of es)) + 1)) (contains-from_list atom_cmp_total (keys_of es) e.0) in
    let both = counted twice (is_sorted atom_cmp es) _ _ _ rest.0 rest.1 size in
    (both.0, both.1 ∙ ap (λ b. not (b && is_sorted atom_cmp es)) (sym (below_all-none e es h.0)))

pub not_not : (b : Bool) → b ≡ not (not b)
not_not true = refl
not_not false = refl

none-before : (e : Entry) (es : List Entry) → T (below_all atom_cmp e.0 es) → NoneBefore e es
none-before e [] up = tt
none-before e (f ∷ fs) up = (ap is_lt (atom_cmp_total.antisymm f.0 e.0) ∙ ap (λ r. is_lt (ordering_reverse r)) (less _ (first _ _ up)), none-before e fs (second _ _ up))

rising-ordered : (es : List Entry) → T (is_sorted atom_cmp es) → IsOrdered es
rising-ordered [] up = tt
rising-ordered (e ∷ es) up = (none-before e es (first _ _ up), rising-ordered es (second _ _ up))

-- where keys rise none stands twice
pub distinct-rising : (es : List Entry) → true ≡ is_sorted atom_cmp es → true ≡ not (repeats (keys_of es))
distinct-rising es up = up ∙ not_not _ ∙ ap not (sym (repeats-counted es (rising-ordered es (subst T up tt))).1)

repeats-IsPermutation : (ks ls : List Atom) → IsPermutation ks ls → repeats ks ≡ repeats ls
repeats-IsPermutation ks ls moved =
    let same : atoms ks ≡ atoms ls = same_set atom_cmp_total atom_cmp-IsAntisymmetric (atoms ks) (atoms ls) (λ q. contains-from_list atom_cmp_total ks q ∙ list_any-IsPermutation (eq_by_cmp atom_cmp q) ks ls moved ∙ sym (contains-from_list atom_cmp_total ls q)) in
    λ i. nat_lt (set.len (same i)) (sym (length_permutation ks ls moved) i)

module _ {X : Type 0} (f : X → Entry) where
  -- what was sorted rises where no key of the list stood twice
  pub rising-sorted : (xs ys : List X) → IsPermutation xs ys → IsOrdered (map f ys) → is_sorted atom_cmp (map f ys) ≡ not (repeats (keys_of (map f xs)))
  rising-sorted xs ys moved up =
      let keys_moved = IsPermutation-map (λ (e : Entry). e.0) (map f xs) (map f ys) (IsPermutation-map f xs ys moved) in
      not_not _ ∙ ap not (sym ((repeats-counted (map f ys) up).1) ∙ sym (repeats-IsPermutation _ _ keys_moved))

  none_before : (x : X) (xs : List X) → ((j : ℕ) (d : X) → j < length xs → is_lt (atom_cmp (f (get_or xs j d)).0 (f x).0) ≡ false) → NoneBefore (f x) (map f xs)
  none_before x [] h = tt
  none_before x (y ∷ ys) h = (h 0 x (omega arith), none_before x ys (λ j d low. h (suc j) d (omega arith)))

  -- what a sort by the keys ensures
  pub IsOrdered-sorted : (xs : List X) → ((i j : ℕ) (d : X) → i ≤ j → j < length xs → is_lt (atom_cmp (f (get_or xs j d)).0 (f (get_or xs i d)).0) ≡ false) → IsOrdered (map f xs)
  IsOrdered-sorted [] h = tt
  IsOrdered-sorted (x ∷ xs) h = (none_before x xs (λ j d low. h 0 (suc j) d (omega arith) (omega arith)), IsOrdered-sorted xs (λ i j d upto low. h (suc i) (suc j) d (omega arith) (omega arith)))
