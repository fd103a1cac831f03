-- What a value has of another, by which the rest differs from it.
use Rattle.std.specs.Prelude.{◌≡◌, Bool, true, false, cond, not, ◌&&◌, ◌||◌, List, [], ◌∷◌, map, filter, filter_map, is_some, Option, Some, None, option_and_then, option_map, Result, Ok}
use Rattle.std.specs.List.{cons_option, list_all, list_any}
use Rattle.std.specs.FinMap.Entries.{find}
use Rattle.std.specs.declared.cmp.Ordering.{Ordering}
use Rattle.std.specs.declared.cmp.Ordering.TheVariants.{Less, Equal, Greater}
use Rattle.std.specs.Ordering.{is_eq, ordering_reverse}
use mathlib.Core.Path.{refl, sym, ap, subst, ◌∙◌}
use mathlib.Core.Bool.{true≢false, xor}
use Rattle.odb_atoms.specs.FinMap as finite
use Rattle.odb_atoms.specs.FinSet as set
use Rattle.odb_atoms.specs.Atom.{Atom, atom_cmp, same_atom}
use Rattle.odb_atoms.specs.ColType.{is_a}
use Rattle.odb_atoms.specs.Difference.{changed, changed_pair, changed_pairs}
use Rattle.odb_atoms.specs.Error.{Error}
use Rattle.odb_atoms.specs.Members.{has, keys, map_fault, set_fault}
use Rattle.odb_atoms.specs.Value.{Atoms, Pairs, Value, atoms, has_pair, is_atom, map_of, set_of}
use Rattle.odb_atoms.specs.Represented.Atom.{atom_of}
use Rattle.odb_atoms.specs.Represented.AtomOrder.{atom_cmp_total}
use Rattle.odb_atoms.specs.Represented.Value.{Lists, pair_of}
use Rattle.odb_atoms.specs.declared.atom.Atom as code
use Rattle.odb_atoms.specs.declared.value.Entries.TheVariants as entries
use Rattle.odb_atoms.proofs.Atoms.{atom_cmp-IsAntisymmetric}
use Rattle.odb_atoms.proofs.EachEntry.{each-get}
use Rattle.odb_atoms.proofs.Equal.{same_atom-itself}
use Rattle.odb_atoms.proofs.FinMaps.{contains_key-keys, get-combine, get-entries, get-map_entries, get-retain_keys, same_key, same_map}
use Rattle.odb_atoms.proofs.FinSets.{contains-difference, contains-from_list, contains-symmetric_difference, same_set}
use Rattle.odb_atoms.proofs.Lists.{all_gives, any_gives}
use Rattle.odb_mutate.specs.Mutation.{delete, delete_keys, delete_pairs, result_of}
use Rattle.odb_mutate.specs.Represented.Kinds.{HasKinds, has_at, pair_at}
use Rattle.odb_mutate.proofs.Distinct.{IsDistinct, map_fault-none}
use Rattle.odb_mutate.proofs.Listed.{distinct-kept, kept_elements, kept_pairs, some_elements, some_pairs}
use Rattle.odb_mutate.proofs.Maps.{find-pairs, get-from_entries}
use Rattle.odb_mutate.proofs.Sets.{any-filter}

-- ---- what both have is of the value's kinds

-- p holds of what q is true of
all-where : {A : Type 0} (p q : A → Bool) → ((x : A) → q x ≡ true → p x ≡ true) → (xs : List A) → list_all p (filter q xs) ≡ true
all-where p q gives [] = refl
all-where p q gives (x ∷ xs) = by (q x) refl (all-where p q gives xs)
  where
    by : (b : Bool) → q x ≡ b → list_all p (filter q xs) ≡ true → list_all p (cond b (x ∷ filter q xs) (filter q xs)) ≡ true
    by true e rest = λ i. gives x e i && rest i
    by false e rest = rest

element-is : (p : Atom → Bool) (s : Atoms) → list_all p (set.items s) ≡ true → (a : Atom) → set.contains s a ≡ true → p a ≡ true
element-is p s all a inside =
    let found = any_gives (same_atom a) (set.items s) (sym (contains_key-keys s a) ∙ inside) in
    ap p (same_key atom_cmp-IsAntisymmetric a found.0 found.2) ∙ all_gives p (set.items s) all found.0 found.1

some-atom : (o : Option Atom) (a : Atom) → is_atom o a ≡ true → o ≡ Some a
some-atom None a e = absurd (true≢false (sym e))
some-atom (Some b) a e = ap Some (same_key atom_cmp-IsAntisymmetric b a e)

pair-is : (p : Atom × Atom → Bool) (m : Pairs) → list_all p m.entries ≡ true → (e : Atom × Atom) → has_pair m e ≡ true → p e ≡ true
pair-is p m all e inside = each-get atom_cmp_total atom_cmp-IsAntisymmetric p m all e.0 e.1 (some-atom (finite.get m e.0) e.1 inside)

-- ---- elements of a set

-- the elements of t that s has, taken out of s
common-elements : (s t : Atoms) → set.symmetric_difference s (atoms (filter (set.contains s) (set.items t))) ≡ set.difference s t
unfolding xor
common-elements s t =
    same_set atom_cmp_total atom_cmp-IsAntisymmetric _ (set.difference s t) (λ q.
    contains-symmetric_difference atom_cmp_total atom_cmp-IsAntisymmetric s (atoms (filter (set.contains s) (set.items t))) q
    ∙ ap (xor (set.contains s q)) (contains-from_list atom_cmp_total (filter (set.contains s) (set.items t)) q ∙ any-filter (set.contains s) q (set.items t) ∙ ap (λ b. b && set.contains s q) (sym (contains_key-keys t q)))
    ∙ without (set.contains s q) (set.contains t q)
    ∙ sym (contains-difference atom_cmp_total atom_cmp-IsAntisymmetric s t q))
  where
    without : (a b : Bool) → xor a (b && a) ≡ (a && not b)
    without true true = refl
    without true false = refl
    without false true = refl
    without false false = refl

pub elements_fault : (s t : List (code.Atom)) (v w : Value) (once : List (code.Atom)) → Lists (entries.Set s) v → Lists (entries.Set t) w → HasKinds v → map atom_of once ≡ map atom_of (filter (λ x. has v (atom_of x)) t) → set_fault (map atom_of once) ≡ None
elements_fault s t (set_of a) (set_of b) once in_s in_t of one =
    ap set_fault (kept_elements t b (set.contains a) once in_t one)
    ∙ some_elements of.0 (set.contains a) b (all-where (is_a of.0) (set.contains a) (element-is (is_a of.0) a of.2) (set.items b))
elements_fault s t (set_of a) (map_of n) once in_s in_t of one = absurd in_t
elements_fault s t (map_of m) w once in_s in_t of one = absurd in_s

pub elements_deleted : (s t : List (code.Atom)) (v w : Value) (once : List (code.Atom)) → Lists (entries.Set s) v → Lists (entries.Set t) w → map atom_of once ≡ map atom_of (filter (λ x. has v (atom_of x)) t) → ◌≡◌ {A = Result Value Error} (Ok (changed v (set_of (atoms (map atom_of once))))) (result_of delete v w)
elements_deleted s t (set_of a) (set_of b) once in_s in_t one =
    ap (λ zs. let r : Result Value Error = Ok (set_of (set.symmetric_difference a (atoms zs))) in r) (kept_elements t b (set.contains a) once in_t one) ∙ ap (λ x. Ok (set_of x)) (common-elements a b)
elements_deleted s t (set_of a) (map_of n) once in_s in_t one = absurd in_t
elements_deleted s t (map_of m) w once in_s in_t one = absurd in_s

-- ---- keys of a map

abbrev pairs_at : Pairs → List Atom → List (Atom × Atom)
pairs_at m = filter_map (pair_at (map_of m))

keys-pairs_at : (m : Pairs) (ks : List Atom) → keys (pairs_at m ks) ≡ filter (finite.contains_key m) ks
keys-pairs_at m [] = refl
keys-pairs_at m (k ∷ ks) = by (finite.get m k) (keys-pairs_at m ks)
  where
    by : (o : Option Atom) → keys (pairs_at m ks) ≡ filter (finite.contains_key m) ks → keys (cons_option (option_map (λ a. (k, a)) o) (pairs_at m ks)) ≡ cond (is_some o) (k ∷ filter (finite.contains_key m) ks) (filter (finite.contains_key m) ks)
    by None rest = rest
    by (Some a) rest = ap (λ xs. k ∷ xs) rest

all-pairs_at : (p : Atom × Atom → Bool) (m : Pairs) → list_all p m.entries ≡ true → (ks : List Atom) → list_all p (pairs_at m ks) ≡ true
all-pairs_at p m all [] = refl
all-pairs_at p m all (k ∷ ks) = by (finite.get m k) refl (all-pairs_at p m all ks)
  where
    by : (o : Option Atom) → finite.get m k ≡ o → list_all p (pairs_at m ks) ≡ true → list_all p (cons_option (option_map (λ a. (k, a)) o) (pairs_at m ks)) ≡ true
    by None e rest = rest
    by (Some a) e rest = λ i. each-get atom_cmp_total atom_cmp-IsAntisymmetric p m all k a e i && rest i

find-pairs_at : (m : Pairs) (q : Atom) (ks : List Atom) → find atom_cmp q (pairs_at m ks) ≡ cond (list_any (same_atom q) ks) (finite.get m q) None
find-pairs_at m q [] = refl
find-pairs_at m q (k ∷ ks) = by (same_atom q k) refl (finite.get m k) refl (find-pairs_at m q ks)
  where
    nothing : (b : Bool) → cond b (let o : Option Atom = None in o) None ≡ None
    nothing true = refl
    nothing false = refl

    by : (t : Bool) → same_atom q k ≡ t → (o : Option Atom) → finite.get m k ≡ o → find atom_cmp q (pairs_at m ks) ≡ cond (list_any (same_atom q) ks) (finite.get m q) None → find atom_cmp q (cons_option (option_map (λ a. (k, a)) o) (pairs_at m ks)) ≡ cond (t || list_any (same_atom q) ks) (finite.get m q) None
    by true t None e rest =
        let here : finite.get m q ≡ None = ap (finite.get m) (same_key atom_cmp-IsAntisymmetric q k t) ∙ e in
        rest ∙ ap (λ o. cond (list_any (same_atom q) ks) o None) here ∙ nothing (list_any (same_atom q) ks) ∙ sym here
    by true t (Some a) e rest =
        let here : finite.get m q ≡ Some a = ap (finite.get m) (same_key atom_cmp-IsAntisymmetric q k t) ∙ e in
        ap (λ b. cond b (Some a) (find atom_cmp q (pairs_at m ks))) t ∙ sym here
    by false t None e rest = rest
    by false t (Some a) e rest = ap (λ b. cond b (Some a) (find atom_cmp q (pairs_at m ks))) t ∙ rest

-- the pairs of m at the keys in s, taken out of m
common-keys : (m : Pairs) (s : Atoms) → changed_pairs m (finite.from_entries (pairs_at m (set.items s))) ≡ delete_keys m s
common-keys m s =
    let present = pairs_at m (set.items s) in
    let stays : Atom → Bool = λ k. not (set.contains s k) in
    same_map atom_cmp_total atom_cmp-IsAntisymmetric _ (delete_keys m s) (λ q.
    get-combine atom_cmp_total atom_cmp-IsAntisymmetric changed_pair refl m (finite.from_entries present) q
    ∙ ap (changed_pair (finite.get m q)) (get-from_entries present q ∙ find-pairs_at m q (set.items s) ∙ ap (λ b. cond b (finite.get m q) None) (sym (contains_key-keys s q)))
    ∙ without (finite.get m q) (set.contains s q)
    ∙ sym (get-retain_keys m stays q (λ x tied. ap stays (sym (atom_cmp-IsAntisymmetric q x tied)))))
  where
    without : (x : Option Atom) (b : Bool) → changed_pair x (cond b x None) ≡ cond (not b) x None
    without None true = refl
    without None false = refl
    without (Some a) true = ap (λ b. cond b None (Some a)) (same_atom-itself a)
    without (Some a) false = refl

listed_at : (t : List (code.Atom)) (m : Pairs) (b : Atoms) (once : List (code.Atom × code.Atom)) → map atom_of t ≡ set.items b → map pair_of once ≡ pairs_at m (map atom_of t) → map pair_of once ≡ pairs_at m (set.items b)
listed_at t m b once in_t one = one ∙ ap (pairs_at m) in_t

pub keys_fault : (s : List (code.Atom × code.Atom)) (t : List (code.Atom)) (v w : Value) (once : List (code.Atom × code.Atom)) → Lists (entries.Map s) v → Lists (entries.Set t) w → HasKinds v → map pair_of once ≡ filter_map (pair_at v) (map atom_of t) → map_fault (map pair_of once) ≡ None
keys_fault s t (map_of m) (set_of b) once in_s in_t of one =
    ap map_fault (listed_at t m b once in_t one)
    ∙ map_fault-none of.0 of.1 _ (all-pairs_at (λ e. is_a of.0 e.0 && is_a of.1 e.1) m of.2 (set.items b)) (subst IsDistinct (sym (keys-pairs_at m (set.items b))) (distinct-kept (finite.contains_key m) b))
keys_fault s t (map_of m) (map_of n) once in_s in_t of one = absurd in_t
keys_fault s t (set_of a) w once in_s in_t of one = absurd in_s

pub keys_deleted : (s : List (code.Atom × code.Atom)) (t : List (code.Atom)) (v w : Value) (once : List (code.Atom × code.Atom)) → Lists (entries.Map s) v → Lists (entries.Set t) w → map pair_of once ≡ filter_map (pair_at v) (map atom_of t) → ◌≡◌ {A = Result Value Error} (Ok (changed v (map_of (finite.from_entries (map pair_of once))))) (result_of delete v w)
keys_deleted s t (map_of m) (set_of b) once in_s in_t one =
    ap (λ es. let r : Result Value Error = Ok (map_of (changed_pairs m (finite.from_entries es))) in r) (listed_at t m b once in_t one) ∙ ap (λ x. Ok (map_of x)) (common-keys m b)
keys_deleted s t (map_of m) (map_of n) once in_s in_t one = absurd in_t
keys_deleted s t (set_of a) w once in_s in_t one = absurd in_s

-- ---- pairs of a map

is_eq-reverse : (r : Ordering) → is_eq (ordering_reverse r) ≡ is_eq r
is_eq-reverse Less = refl
is_eq-reverse Equal = refl
is_eq-reverse Greater = refl

same-turned : (a b : Atom) → same_atom a b ≡ same_atom b a
same-turned a b = ap is_eq (atom_cmp_total.antisymm a b) ∙ is_eq-reverse (atom_cmp b a)

-- the pairs of n that m has, taken out of m
common-pairs : (m n : Pairs) → changed_pairs m (finite.from_entries (filter (has_pair m) n.entries)) ≡ delete_pairs m n
common-pairs m n =
    let present = filter (has_pair m) n.entries in
    same_map atom_cmp_total atom_cmp-IsAntisymmetric _ (delete_pairs m n) (λ q.
    get-combine atom_cmp_total atom_cmp-IsAntisymmetric changed_pair refl m (finite.from_entries present) q
    ∙ ap (changed_pair (finite.get m q)) (get-from_entries present q ∙ find-pairs (has_pair m) q n.entries n.sorted ∙ ap (option_and_then (λ v. cond (has_pair m (q, v)) (Some v) None)) (sym (get-entries n q)))
    ∙ without (finite.get m q) (finite.get n q)
    ∙ sym (get-map_entries atom_cmp_total atom_cmp-IsAntisymmetric (λ k v. cond (has_pair n (k, v)) None (Some v)) m q))
  where
    without : (x y : Option Atom) → changed_pair x (option_and_then (λ v. cond (is_atom x v) (Some v) None) y) ≡ option_and_then (λ v. cond (is_atom y v) None (Some v)) x
    without None None = refl
    without None (Some b) = refl
    without (Some a) None = refl
    without (Some a) (Some b) = by (same_atom a b) refl
      where
        by : (t : Bool) → same_atom a b ≡ t → changed_pair (Some a) (cond t (Some b) None) ≡ cond (same_atom b a) None (Some a)
        by true t = ap (λ u. cond u None (Some b)) t ∙ ap (λ u. cond u None (Some a)) (sym t ∙ same-turned a b)
        by false t = ap (λ u. cond u None (Some a)) (sym t ∙ same-turned a b)

pub pairs_fault : (s t : List (code.Atom × code.Atom)) (v w : Value) (once : List (code.Atom × code.Atom)) → Lists (entries.Map s) v → Lists (entries.Map t) w → HasKinds v → map pair_of once ≡ map pair_of (filter (λ p. has_at v (pair_of p)) t) → map_fault (map pair_of once) ≡ None
pairs_fault s t (map_of m) (map_of n) once in_s in_t of one =
    let kinds : Atom × Atom → Bool = λ e. is_a of.0 e.0 && is_a of.1 e.1 in
    ap map_fault (kept_pairs t n (has_pair m) once in_t one)
    ∙ some_pairs of.0 of.1 (has_pair m) n (all-where kinds (has_pair m) (pair-is kinds m of.2) n.entries)
pairs_fault s t (map_of m) (set_of b) once in_s in_t of one = absurd in_t
pairs_fault s t (set_of a) w once in_s in_t of one = absurd in_s

pub pairs_deleted : (s t : List (code.Atom × code.Atom)) (v w : Value) (once : List (code.Atom × code.Atom)) → Lists (entries.Map s) v → Lists (entries.Map t) w → map pair_of once ≡ map pair_of (filter (λ p. has_at v (pair_of p)) t) → ◌≡◌ {A = Result Value Error} (Ok (changed v (map_of (finite.from_entries (map pair_of once))))) (result_of delete v w)
pairs_deleted s t (map_of m) (map_of n) once in_s in_t one =
    ap (λ es. let r : Result Value Error = Ok (map_of (changed_pairs m (finite.from_entries es))) in r) (kept_pairs t n (has_pair m) once in_t one) ∙ ap (λ x. Ok (map_of x)) (common-pairs m n)
pairs_deleted s t (map_of m) (set_of b) once in_s in_t one = absurd in_t
pairs_deleted s t (set_of a) w once in_s in_t one = absurd in_s
