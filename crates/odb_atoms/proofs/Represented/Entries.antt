-- The elements of a set and the pairs of a map as entries: what is found in the one is found in the other.
use Rattle.std.specs.Prelude.{◌≡◌, ◌<◌, ◌≤◌, Bool, true, false, cond, not, ◌&&◌, T, suc, List, [], ◌∷◌, ◌++◌, map, length, get_or, is_some, Option, Some, None, option_map, option_and_then, unwrap_or, IsPermutation, Contains}
use mathlib.Core.Path.{refl, sym, ap, subst, ◌∙◌}
use mathlib.Core.Bool.{xor}
use Rattle.std.proofs.Common.{arith}
use Rattle.std.specs.declared.cmp.Ordering.{Ordering}
use Rattle.std.specs.declared.cmp.Ordering.TheVariants.{Equal}
use Rattle.std.specs.List.{list_all, list_any}
use Rattle.std.specs.Ordering.{eq_by_cmp, is_lt}
use Rattle.std.specs.FinMap.Entries.{below_all, find, is_sorted, is_some-find}
use Rattle.std.proofs.lemmas.List.Sorted.{Contains-permutation, IsPermutation-map, list_any-IsPermutation}
use Rattle.odb_atoms.specs.Atom as model
use Rattle.odb_atoms.specs.Atom.{atom_cmp, kind_of, same_atom}
use Rattle.odb_atoms.specs.ColType.{is_a}
use Rattle.odb_atoms.specs.Difference.{changed, changed_pair}
use Rattle.odb_atoms.specs.FinSet as set
use Rattle.odb_atoms.specs.FinMap as finite
use Rattle.odb_atoms.specs.Members.{are_of_one_kind, excludes_all, has, have_one_kind_each, keys, map_fault, mixed_kinds, repeated, repeats, set_fault, value_at, values}
use Rattle.odb_atoms.specs.Value.{Value, atoms, has_pair, includes_all, is_atom, map_of, set_of}
use Rattle.odb_atoms.specs.Represented.Atom.{atom_of}
use Rattle.odb_atoms.specs.Represented.Entry.{Entry, IsChange, IsRising, changed_value, entry_at, has_entry, is_alike, keys_of}
use Rattle.odb_atoms.specs.Represented.Value.{AreAscending, HaveAscendingKeys, key_of, map_in, pair_of, set_in}
use Rattle.odb_atoms.specs.declared.atom.Atom.{Atom}
use Rattle.odb_atoms.proofs.Atoms.{atom_cmp-IsAntisymmetric}
use Rattle.odb_atoms.specs.Represented.AtomOrder.{atom_cmp_total}
use Rattle.odb_atoms.proofs.FinMaps.{contains_key-keys, entries-from_sorted, get-combine, get-empty, get-entries, get-insert, same_map}
use Rattle.odb_atoms.proofs.FinSets.{contains-from_list, contains-symmetric_difference, same_set}
use Rattle.std.proofs.lemmas.List.Folds.{list_all-map as all-map}
use Rattle.std.proofs.lemmas.Option.{none-some, same_Some}
use Rattle.std.specs.Cmp.{tied_back}
use Rattle.odb_atoms.proofs.Rising.{equal, find-tied, none_of}
use Rattle.odb_atoms.proofs.Sorts.{not_not}
use Rattle.odb_atoms.proofs.Represented.Values.{items-from_sorted, map-map, one_in, pairs-from_sorted}

abbrev pub as_element : Atom → Entry
as_element a = (atom_of a, None)

abbrev pub as_pair : Atom × Atom → Entry
as_pair p = (atom_of p.0, Some (atom_of p.1))

map-id : {A : Type 0} (xs : List A) → map (λ x. x) xs ≡ xs
map-id [] = refl
map-id (x ∷ xs) = ap (λ ys. x ∷ ys) (map-id xs)

-- ---- lists with the same keys

module _ {X K V W : Type 0} (R : K → K → Ordering) (k : X → K) (f : X → V) (g : X → W) where
  below_all-map : (q : K) (xs : List X) → below_all R q (map (λ x. (k x, f x)) xs) ≡ below_all R q (map (λ x. (k x, g x)) xs)
  below_all-map q [] = refl
  below_all-map q (x ∷ xs) = ap (λ b. is_lt (R q (k x)) && b) (below_all-map q xs)

  is_sorted-map : (xs : List X) → is_sorted R (map (λ x. (k x, f x)) xs) ≡ is_sorted R (map (λ x. (k x, g x)) xs)
  is_sorted-map [] = refl
  is_sorted-map (x ∷ xs) = λ i. below_all-map (k x) xs i && is_sorted-map xs i

find-map : {X K V W : Type 0} (R : K → K → Ordering) (k : X → K) (f : X → V) (h : V → W) (q : K) (xs : List X) → find R q (map (λ x. (k x, h (f x))) xs) ≡ option_map h (find R q (map (λ x. (k x, f x)) xs))
find-map R k f h q [] = refl
find-map R k f h q (x ∷ xs) = elim (eq_by_cmp R q (k x)) as (λ b. cond b (Some (h (f x))) (find R q (map (λ x. (k x, h (f x))) xs)) ≡ option_map h (cond b (Some (f x)) (find R q (map (λ x. (k x, f x)) xs)))) [ true ↦ refl | false ↦ find-map R k f h q xs ]

pub elements_rise : (xs : List Atom) → AreAscending xs → IsRising (map as_element xs)
elements_rise xs h = subst T (is_sorted-map atom_cmp atom_of (λ _. tt) (λ _. None) xs) h

pub elements_ascend : (xs : List Atom) → IsRising (map as_element xs) → AreAscending xs
elements_ascend xs h = subst T (sym (is_sorted-map atom_cmp atom_of (λ _. tt) (λ _. None) xs)) h

pub pairs_rise : (xs : List (Atom × Atom)) → HaveAscendingKeys xs → IsRising (map as_pair xs)
pairs_rise xs h = subst T (is_sorted-map atom_cmp (λ p. atom_of p.0) (λ p. atom_of p.1) (λ p. Some (atom_of p.1)) xs) h

pub pairs_ascend : (xs : List (Atom × Atom)) → IsRising (map as_pair xs) → HaveAscendingKeys xs
pairs_ascend xs h = subst T (sym (is_sorted-map atom_cmp (λ p. atom_of p.0) (λ p. atom_of p.1) (λ p. Some (atom_of p.1)) xs)) h

-- ---- what is found

get-from_sorted : {V : Type 0} (es : List (model.Atom × V)) (q : model.Atom) → T (is_sorted atom_cmp es) → finite.get (finite.from_sorted {R = atom_cmp} es) q ≡ find atom_cmp q es
get-from_sorted es q h = get-entries (finite.from_sorted es) q ∙ ap (find atom_cmp q) (entries-from_sorted atom_cmp es h)

pub entry_at-elements : (xs : List Atom) (q : model.Atom) → AreAscending xs → entry_at (map as_element xs) q ≡ option_map (λ _. None) (finite.get (finite.from_sorted {R = atom_cmp} (map key_of xs)) q)
entry_at-elements xs q h = find-map atom_cmp atom_of (λ _. tt) (λ _. None) q xs ∙ ap (option_map (λ _. None)) (sym (get-from_sorted (map key_of xs) q h))

pub entry_at-pairs : (xs : List (Atom × Atom)) (q : model.Atom) → HaveAscendingKeys xs → entry_at (map as_pair xs) q ≡ option_map Some (finite.get (finite.from_sorted {R = atom_cmp} (map pair_of xs)) q)
entry_at-pairs xs q h = find-map atom_cmp (λ p. atom_of p.0) (λ p. atom_of p.1) Some q xs ∙ ap (option_map Some) (sym (get-from_sorted (map pair_of xs) q h))

pub is_some-option_map : {A B : Type 0} (f : A → B) (o : Option A) → is_some (option_map f o) ≡ is_some o
is_some-option_map f None = refl
is_some-option_map f (Some x) = refl

inside : (o : Option model.Atom) → option_and_then (λ x. x) (option_map Some o) ≡ o
inside None = refl
inside (Some a) = refl

-- what a map has at the key
pub value_at-map_in : (xs : List (Atom × Atom)) (v : Value) (q : model.Atom) (o : Option model.Atom) → HaveAscendingKeys xs → map_in xs ≡ v → option_map Some o ≡ entry_at (map as_pair xs) q → o ≡ value_at v q
value_at-map_in xs v q o h is found = sym (inside o) ∙ ap (option_and_then (λ x. x)) (found ∙ entry_at-pairs xs q h) ∙ inside _ ∙ ap (λ w. value_at w q) is

-- a search for a key of a set, or of a map
pub has-set_in : (xs : List Atom) (v : Value) (q : model.Atom) → AreAscending xs → set_in xs ≡ v → is_some (entry_at (map as_element xs) q) ≡ has v q
has-set_in xs v q h is = ap is_some (entry_at-elements xs q h) ∙ is_some-option_map _ _ ∙ ap (λ w. has w q) is

pub has-map_in : (xs : List (Atom × Atom)) (v : Value) (q : model.Atom) → HaveAscendingKeys xs → map_in xs ≡ v → is_some (entry_at (map as_pair xs) q) ≡ has v q
has-map_in xs v q h is = ap is_some (entry_at-pairs xs q h) ∙ is_some-option_map _ _ ∙ ap (λ w. has w q) is

-- ---- one value against another

alike_none : (o : Option (Unit {0})) → is_alike (option_map (λ _. None) o) None ≡ is_some o
alike_none None = refl
alike_none (Some u) = refl

alike_some : (o : Option model.Atom) (a : model.Atom) → is_alike (option_map Some o) (Some a) ≡ is_atom o a
alike_some None a = refl
alike_some (Some b) a = refl

has_entry-element : (xs : List Atom) → AreAscending xs → (q : model.Atom) → has_entry (map as_element xs) (q, None) ≡ set.contains (finite.from_sorted {R = atom_cmp} (map key_of xs)) q
has_entry-element xs h q = ap (λ o. is_alike o None) (entry_at-elements xs q h) ∙ alike_none _

has_entry-pair : (xs : List (Atom × Atom)) → HaveAscendingKeys xs → (e : model.Atom × model.Atom) → has_entry (map as_pair xs) (e.0, Some e.1) ≡ has_pair (finite.from_sorted (map pair_of xs)) e
has_entry-pair xs h e = ap (λ o. is_alike o (Some e.1)) (entry_at-pairs xs e.0 h) ∙ alike_some _ e.1

list_all-map : {X A B : Type 0} (f : X → A) (g : X → B) (p : A → Bool) (q : B → Bool) → ((x : X) → p (f x) ≡ q (g x)) → (xs : List X) → list_all p (map f xs) ≡ list_all q (map g xs)
list_all-map f g p q is [] = refl
list_all-map f g p q is (x ∷ xs) = λ i. is x i && list_all-map f g p q is xs i

module _ (r : Bool → Bool) where
  all-elements : (xs ys : List Atom) → AreAscending xs → AreAscending ys → list_all (λ e. r (has_entry (map as_element xs) e)) (map as_element ys) ≡ list_all (λ a. r (set.contains (finite.from_sorted {R = atom_cmp} (map key_of xs)) a)) (set.items (finite.from_sorted {R = atom_cmp} (map key_of ys)))
  all-elements xs ys h k =
      list_all-map as_element atom_of _ (λ a. r (set.contains (finite.from_sorted {R = atom_cmp} (map key_of xs)) a)) (λ y. ap r (has_entry-element xs h (atom_of y))) ys
      ∙ ap (list_all (λ a. r (set.contains (finite.from_sorted {R = atom_cmp} (map key_of xs)) a))) (sym (items-from_sorted ys k))

  all-pairs : (xs ys : List (Atom × Atom)) → HaveAscendingKeys xs → HaveAscendingKeys ys → list_all (λ e. r (has_entry (map as_pair xs) e)) (map as_pair ys) ≡ list_all (λ e. r (has_pair (finite.from_sorted (map pair_of xs)) e)) (finite.from_sorted {R = atom_cmp} (map pair_of ys)).entries
  all-pairs xs ys h k =
      list_all-map as_pair pair_of _ (λ e. r (has_pair (finite.from_sorted (map pair_of xs)) e)) (λ y. ap r (has_entry-pair xs h (pair_of y))) ys
      ∙ ap (list_all (λ e. r (has_pair (finite.from_sorted (map pair_of xs)) e))) (sym (pairs-from_sorted ys k))

pub includes_all-set_in : (xs ys : List Atom) (v w : Value) → AreAscending xs → AreAscending ys → set_in xs ≡ v → set_in ys ≡ w → list_all (has_entry (map as_element xs)) (map as_element ys) ≡ includes_all v w
includes_all-set_in xs ys v w h k is_v is_w = all-elements (λ b. b) xs ys h k ∙ (λ i. includes_all (is_v i) (is_w i))

pub includes_all-map_in : (xs ys : List (Atom × Atom)) (v w : Value) → HaveAscendingKeys xs → HaveAscendingKeys ys → map_in xs ≡ v → map_in ys ≡ w → list_all (has_entry (map as_pair xs)) (map as_pair ys) ≡ includes_all v w
includes_all-map_in xs ys v w h k is_v is_w = all-pairs (λ b. b) xs ys h k ∙ (λ i. includes_all (is_v i) (is_w i))

pub excludes_all-set_in : (xs ys : List Atom) (v w : Value) → AreAscending xs → AreAscending ys → set_in xs ≡ v → set_in ys ≡ w → list_all (λ e. not (has_entry (map as_element xs) e)) (map as_element ys) ≡ excludes_all v w
excludes_all-set_in xs ys v w h k is_v is_w = all-elements not xs ys h k ∙ (λ i. excludes_all (is_v i) (is_w i))

pub excludes_all-map_in : (xs ys : List (Atom × Atom)) (v w : Value) → HaveAscendingKeys xs → HaveAscendingKeys ys → map_in xs ≡ v → map_in ys ≡ w → list_all (λ e. not (has_entry (map as_pair xs) e)) (map as_pair ys) ≡ excludes_all v w
excludes_all-map_in xs ys v w h k is_v is_w = all-pairs not xs ys h k ∙ (λ i. excludes_all (is_v i) (is_w i))

-- ---- equal entries make equal values

-- and lists with equal entries have equal keys, and equal pairs
same_keys : (xs ys : List Atom) → map as_element xs ≡ map as_element ys → map key_of xs ≡ map key_of ys
same_keys xs ys is =
    let back : (zs : List Atom) → map key_of zs ≡ map (λ (e : Entry). (e.0, tt)) (map as_element zs) = λ zs. sym (map-map (λ (e : Entry). (e.0, tt)) as_element zs) in
    back xs ∙ ap (map (λ (e : Entry). (e.0, tt))) is ∙ sym (back ys)

same_pairs : (xs ys : List (Atom × Atom)) → map as_pair xs ≡ map as_pair ys → map pair_of xs ≡ map pair_of ys
same_pairs xs ys is =
    let pair : Entry → model.Atom × model.Atom = λ e. (e.0, unwrap_or e.1 e.0) in
    let back : (zs : List (Atom × Atom)) → map pair_of zs ≡ map pair (map as_pair zs) = λ zs. sym (map-map pair as_pair zs) in
    back xs ∙ ap (map pair) is ∙ sym (back ys)

pub AreAscending-same : (xs ys : List Atom) → map as_element ys ≡ map as_element xs → AreAscending xs → AreAscending ys
AreAscending-same xs ys is h = subst (λ es. T (is_sorted atom_cmp es)) (sym (same_keys ys xs is)) h

pub HaveAscendingKeys-same : (xs ys : List (Atom × Atom)) → map as_pair ys ≡ map as_pair xs → HaveAscendingKeys xs → HaveAscendingKeys ys
HaveAscendingKeys-same xs ys is h = subst (λ es. T (is_sorted atom_cmp es)) (sym (same_pairs ys xs is)) h

pub set_in-same : (xs ys : List Atom) → map as_element xs ≡ map as_element ys → set_in xs ≡ set_in ys
set_in-same xs ys is = ap (λ es. set_of (finite.from_sorted es)) (same_keys xs ys is)

pub map_in-same : (xs ys : List (Atom × Atom)) → map as_pair xs ≡ map as_pair ys → map_in xs ≡ map_in ys
map_in-same xs ys is = ap (λ es. map_of (finite.from_sorted es)) (same_pairs xs ys is)

-- ---- one element

pub only_last : (xs ys : List Atom) (x : Atom) → xs ≡ ys ++ x ∷ [] → length xs ≡ 1 → xs ≡ x ∷ []
only_last xs [] x is one = is
only_last xs (y ∷ []) x is one = absurd (omega (arith, ap length is))
only_last xs (y ∷ z ∷ ys) x is one = absurd (omega (arith, ap length is))

pub set_in-only : (xs : List Atom) (x : Atom) → xs ≡ x ∷ [] → set_in xs ≡ set_of (atoms (atom_of x ∷ []))
set_in-only xs x is = ap set_in is ∙ one_in (atom_of x)

-- ---- what a sort leaves

pub set_in-sorted : (xs ys : List Atom) → IsPermutation xs ys → AreAscending ys → set_in ys ≡ set_of (atoms (map atom_of xs))
set_in-sorted xs ys moved h =
    ap set_of (same_set atom_cmp_total atom_cmp-IsAntisymmetric _ _ (λ q.
    contains_key-keys (finite.from_sorted {R = atom_cmp} (map key_of ys)) q
    ∙ ap (list_any (eq_by_cmp atom_cmp q)) (items-from_sorted ys h)
    ∙ sym (list_any-IsPermutation (eq_by_cmp atom_cmp q) (map atom_of xs) (map atom_of ys) (IsPermutation-map atom_of xs ys moved))
    ∙ sym (contains-from_list atom_cmp_total (map atom_of xs) q)))

pub keys-elements : (xs : List Atom) → keys_of (map as_element xs) ≡ map atom_of xs
keys-elements xs = map-map (λ (e : Entry). e.0) as_element xs

pub keys-pairs : (xs : List (Atom × Atom)) → keys_of (map as_pair xs) ≡ keys (map pair_of xs)
keys-pairs xs = map-map (λ (e : Entry). e.0) as_pair xs ∙ sym (map-map (λ (p : model.Atom × model.Atom). p.0) pair_of xs)

-- why a list is refused, by what was tested
pub set_fault-by : (list : List model.Atom) (one distinct : Bool) → are_of_one_kind list ≡ one → distinct ≡ not (repeats list) → set_fault list ≡ cond (not one) (Some mixed_kinds) (cond (not distinct) (Some repeated) None)
set_fault-by list one distinct kinds apart = λ i. cond (not (kinds i)) (Some mixed_kinds) (cond (twice i) (Some repeated) None)
  where
    twice : repeats list ≡ not distinct
    twice = not_not (repeats list) ∙ ap not (sym apart)

pub map_fault-by : (list : List (model.Atom × model.Atom)) (one distinct : Bool) → have_one_kind_each list ≡ one → distinct ≡ not (repeats (keys list)) → map_fault list ≡ cond (not one) (Some mixed_kinds) (cond (not distinct) (Some repeated) None)
map_fault-by list one distinct kinds apart = λ i. cond (not (kinds i)) (Some mixed_kinds) (cond (twice i) (Some repeated) None)
  where
    twice : repeats (keys list) ≡ not distinct
    twice = not_not (repeats (keys list)) ∙ ap not (sym apart)

-- an entry of a rising list is the one that is found at its key
find-among : (es : List Entry) (e : Entry) (q : model.Atom) → IsRising es → Contains es e → atom_cmp e.0 q ≡ Equal → entry_at es q ≡ Some e.1
find-among es e q up has tied =
    let at = has.2 in
    subst (λ zs. entry_at zs q ≡ Some e.1) (map-id es)
    (find-tied atom_cmp_total (λ z. z) q es has.0 e (subst IsRising (sym (map-id es)) up) has.1 (ap (λ z. atom_cmp z.0 q) at ∙ tied) ∙ ap (λ z. Some z.1) at)

-- what is found stands in the list
stands : (zs : List Entry) (q : model.Atom) (v : Option model.Atom) → entry_at zs q ≡ Some v → (e : Entry) × Contains zs e × (atom_cmp e.0 q ≡ Equal) × (e.1 ≡ v)
stands [] q v is = absurd (none-some v is)
stands (z ∷ zs) q v is = by (eq_by_cmp atom_cmp q z.0) refl is (stands zs q v)
  where
    by : (b : Bool) → eq_by_cmp atom_cmp q z.0 ≡ b → cond b (Some z.1) (entry_at zs q) ≡ Some v → (entry_at zs q ≡ Some v → (e : Entry) × Contains zs e × (atom_cmp e.0 q ≡ Equal) × (e.1 ≡ v)) → (e : Entry) × Contains (z ∷ zs) e × (atom_cmp e.0 q ≡ Equal) × (e.1 ≡ v)
    by true t found rest = (z, (0, omega arith, refl), tied_back atom_cmp_total q z.0 (equal _ t), same_Some z.1 v found)
    by false t found rest = let w = rest found in (w.0, (suc w.1.0, omega (arith, w.1.1), w.1.2), w.2, w.3)

-- what is found in a list is found where its entries stand in another order, of which the keys rise
pub found-sorted : (es fs : List Entry) → IsPermutation es fs → IsRising fs → (q : model.Atom) → entry_at fs q ≡ entry_at es q
found-sorted es fs moved up q = by (entry_at es q) refl
  where
    some_alike : is_some (entry_at fs q) ≡ is_some (entry_at es q)
    some_alike = is_some-find atom_cmp q fs ∙ sym (list_any-IsPermutation (eq_by_cmp atom_cmp q) (keys_of es) (keys_of fs) (IsPermutation-map (λ (e : Entry). e.0) es fs moved)) ∙ sym (is_some-find atom_cmp q es)

    by : (o : Option (Option model.Atom)) → entry_at es q ≡ o → entry_at fs q ≡ entry_at es q
    by None is = none_of (entry_at fs q) (some_alike ∙ ap is_some is) ∙ sym is
    by (Some v) is = let w = stands es q v is in find-among fs w.0 q up (Contains-permutation es fs w.0 moved w.1) w.2 ∙ ap Some w.3 ∙ sym is

get-from_entries : (es : List (model.Atom × model.Atom)) (q : model.Atom) → finite.get (finite.from_entries {R = atom_cmp} es) q ≡ find atom_cmp q es
get-from_entries [] q = get-empty atom_cmp q
get-from_entries (e ∷ es) q = get-insert atom_cmp_total (finite.from_entries es) e.0 e.1 q ∙ ap (cond (eq_by_cmp atom_cmp q e.0) (Some e.1)) (get-from_entries es q)

pub map_in-sorted : (xs ys : List (Atom × Atom)) → IsPermutation xs ys → HaveAscendingKeys ys → map_in ys ≡ map_of (finite.from_entries (map pair_of xs))
map_in-sorted xs ys moved h =
    ap map_of (same_map atom_cmp_total atom_cmp-IsAntisymmetric _ _ (λ q.
    sym (inside _)
    ∙ ap (option_and_then (λ x. x)) (sym (entry_at-pairs ys q h) ∙ found-sorted (map as_pair xs) (map as_pair ys) (IsPermutation-map as_pair xs ys moved) (pairs_rise ys h) q ∙ find-map atom_cmp (λ p. atom_of p.0) (λ p. atom_of p.1) Some q xs)
    ∙ inside (find atom_cmp q (map pair_of xs))
    ∙ sym (get-from_entries (map pair_of xs) q)))

-- ---- kinds

both_all : {A : Type 0} (p q : A → Bool) (xs : List A) → list_all (λ x. p x && q x) xs ≡ (list_all p xs && list_all q xs)
both_all p q [] = refl
both_all p q (x ∷ xs) = ap (λ b. (p x && q x) && b) (both_all p q xs) ∙ by (p x) (q x) (list_all p xs) (list_all q xs)
  where
    by : (a b c d : Bool) → ((a && b) && (c && d)) ≡ ((a && c) && (b && d))
    by true b true d = refl
    by true true false d = refl
    by true false false d = refl
    by false b c d = refl

pub one_kind-front : {X : Type 0} (f : X → model.Atom) (xs : List X) (x : X) (rest : List X) (k : model.Kind) → xs ≡ x ∷ rest → k ≡ kind_of (f x) → list_all (λ a. is_a k (f a)) rest ≡ are_of_one_kind (map f xs)
one_kind-front f xs x rest k is of = sym (all-map (is_a k) f rest) ∙ ap (λ l. list_all (is_a l) (map f rest)) of ∙ ap (λ zs. are_of_one_kind (map f zs)) (sym is)

pub one_kind_each-front : (xs : List (Atom × Atom)) (x : Atom × Atom) (rest : List (Atom × Atom)) (k l : model.Kind) → xs ≡ x ∷ rest → k ≡ kind_of (atom_of x.0) → l ≡ kind_of (atom_of x.1) → list_all (λ p. is_a k (atom_of p.0) && is_a l (atom_of p.1)) rest ≡ (are_of_one_kind (keys (map pair_of xs)) && are_of_one_kind (values (map pair_of xs)))
one_kind_each-front xs x rest k l is of_key of_value =
    let of_keys = one_kind-front (λ p. atom_of p.0) xs x rest k is of_key ∙ ap are_of_one_kind (sym (map-map (λ (p : model.Atom × model.Atom). p.0) pair_of xs)) in
    let of_values = one_kind-front (λ p. atom_of p.1) xs x rest l is of_value ∙ ap are_of_one_kind (sym (map-map (λ (p : model.Atom × model.Atom). p.1) pair_of xs)) in
    both_all (λ p. is_a k (atom_of p.0)) (λ p. is_a l (atom_of p.1)) rest ∙ (λ i. of_keys i && of_values i)

-- ---- differences

changed_none : (x y : Option (Unit {0})) → is_some (changed_value (option_map (λ _. None) x) (option_map (λ _. None) y)) ≡ xor (is_some x) (is_some y)
unfolding xor
changed_none None None = refl
changed_none None (Some v) = refl
changed_none (Some u) None = refl
changed_none (Some u) (Some v) = refl

changed_some : (x y : Option model.Atom) → changed_value (option_map Some x) (option_map Some y) ≡ option_map Some (changed_pair x y)
changed_some None None = refl
changed_some None (Some b) = refl
changed_some (Some a) None = refl
changed_some (Some a) (Some b) = elim (same_atom a b) as (λ s. cond s None (Some (Some b)) ≡ option_map Some (cond s None (Some b))) [ true ↦ refl | false ↦ refl ]

pub changed-set_in : (xs ys zs : List Atom) (v w : Value) → AreAscending xs → AreAscending ys → AreAscending zs → set_in xs ≡ v → set_in ys ≡ w → IsChange (map as_element xs) (map as_element ys) (map as_element zs) → set_in zs ≡ changed v w
changed-set_in xs ys zs v w h k l is_v is_w change =
    ap set_of (same_set atom_cmp_total atom_cmp-IsAntisymmetric _ _ (λ q.
    sym (is_some-option_map (λ _. None) _)
    ∙ ap is_some (sym (entry_at-elements zs q l) ∙ change q ∙ (λ i. changed_value (entry_at-elements xs q h i) (entry_at-elements ys q k i)))
    ∙ changed_none _ _
    ∙ sym (contains-symmetric_difference atom_cmp_total atom_cmp-IsAntisymmetric _ _ q)))
    ∙ (λ i. changed (is_v i) (is_w i))

pub changed-map_in : (xs ys zs : List (Atom × Atom)) (v w : Value) → HaveAscendingKeys xs → HaveAscendingKeys ys → HaveAscendingKeys zs → map_in xs ≡ v → map_in ys ≡ w → IsChange (map as_pair xs) (map as_pair ys) (map as_pair zs) → map_in zs ≡ changed v w
changed-map_in xs ys zs v w h k l is_v is_w change =
    let m = finite.from_sorted {R = atom_cmp} (map pair_of xs) in
    let n = finite.from_sorted {R = atom_cmp} (map pair_of ys) in
    ap map_of (same_map atom_cmp_total atom_cmp-IsAntisymmetric _ _ (λ q.
    sym (inside _)
    ∙ ap (option_and_then (λ x. x)) (sym (entry_at-pairs zs q l) ∙ change q ∙ (λ i. changed_value (entry_at-pairs xs q h i) (entry_at-pairs ys q k i)) ∙ changed_some (finite.get m q) (finite.get n q))
    ∙ inside _
    ∙ sym (get-combine atom_cmp_total atom_cmp-IsAntisymmetric changed_pair refl _ _ q)))
    ∙ (λ i. changed (is_v i) (is_w i))
