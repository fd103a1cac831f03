-- A search among atoms tells whether a condition that asks for one of them holds.
use Rattle.std.specs.Prelude.{◌≡◌, ℕ, suc, ◌<◌, Bool, true, false, not, ◌&&◌, ◌||◌, ◌==◌, List, [], ◌∷◌, ◌++◌, length, get_or, Option, Some, None, option_map, IfSome}
use Rattle.std.specs.Borrow.{Bor}
use Rattle.std.specs.List.{list_all, list_any}
use Rattle.std.specs.declared.cmp.Ordering.{Ordering}
use Rattle.std.specs.declared.cmp.Ordering.TheVariants.{Less, Equal, Greater}
use Rattle.std.specs.List.Sorted.{IsNonDecreasingBy, IsPartitionPoint, IsSorted}
use Rattle.std.specs.Ordering.{is_eq, ordering_index}
use Rattle.std.proofs.Common.{arith, ⊎_elim}
use Rattle.std.proofs.lemmas.Bool.{cases_lt}
use Rattle.std.proofs.lemmas.Bool.Decides.{nat_tests}
use Rattle.std.proofs.lemmas.Cmp.{eq_by_cmp_equiv}
use Rattle.std.proofs.lemmas.List.{length-map}
use Rattle.std.proofs.lemmas.List.Folds.{list_any-append, list_any_at}
use Rattle.std.proofs.lemmas.List.Sorted.{searchable_from_sorted}
use Rattle.std.proofs.lemmas.Option.{none-some, same_Some}
use mathlib.Core.Path.{refl, sym, ap, ◌∙◌}
use Rattle.odb_atoms.specs.Atom.{Atom, atom_cmp, same_atom}
use Rattle.odb_atoms.specs.FinMap as finite
use Rattle.odb_atoms.specs.FinSet as set
use Rattle.odb_atoms.specs.Represented.Atom.{atom_of}
use Rattle.odb_atoms.specs.Represented.AtomOrder.{atom_cmp_total}
use Rattle.odb_atoms.specs.Represented.Value.{Lists, set_in}
use Rattle.odb_atoms.specs.Value.{Atoms, Value, atoms, includes_all, map_of, same_value, set_of}
use Rattle.odb_atoms.specs.declared.atom.Atom as code
use Rattle.odb_atoms.specs.declared.value.Entries.TheVariants as entries
use Rattle.odb_atoms.proofs.FinMaps.{contains_key-keys}
use Rattle.odb_atoms.proofs.FinSets.{contains-from_list}
use Rattle.odb_atoms.proofs.Lists.{any-map}
use Rattle.odb_atoms.proofs.Represented.Entries.{set_in-only}
use Rattle.odb_atoms.proofs.Values.{same_value-equal}
use Rattle.odb_chunks.specs.Represented.Chunks.{lone_of}
use Rattle.odb_cond.specs.Represented.Keyed.{asks, asks_some, found_in, is_among, one}

-- ---- tests of lists

and_false : (b : Bool) → (b && false) ≡ false
and_false true = refl
and_false false = refl

and_true : (b : Bool) → (b && true) ≡ b
and_true true = refl
and_true false = refl

twice : (b : Bool) → (b && (b && true)) ≡ b
twice true = refl
twice false = refl

two_each : (a b c d : Bool) → ((a || b) || (c || d)) ≡ ((a || c) || (b || d))
two_each true b c d = refl
two_each false true true d = refl
two_each false true false d = refl
two_each false false c d = refl

any_none : {X : Type 0} (p : X → Bool) → ((x : X) → p x ≡ false) → (xs : List X) → list_any p xs ≡ false
any_none p none [] = refl
any_none p none (x ∷ xs) = ap (λ b. b || list_any p xs) (none x) ∙ any_none p none xs

any_and : {X : Type 0} (t : Bool) (p : X → Bool) (xs : List X) → list_any (λ x. t && p x) xs ≡ (t && list_any p xs)
any_and true p xs = refl
any_and false p xs = any_none (λ x. false && p x) (λ x. refl) xs

any_or : {X : Type 0} (p q : X → Bool) (xs : List X) → (list_any p xs || list_any q xs) ≡ list_any (λ x. p x || q x) xs
any_or p q [] = refl
any_or p q (x ∷ xs) = two_each (p x) (list_any p xs) (q x) (list_any q xs) ∙ ap (λ b. (p x || q x) || b) (any_or p q xs)

-- which of two lists is gone through first doesn't matter
any_swap : {X Y : Type 0} (p : X → Y → Bool) (xs : List X) (ys : List Y) → list_any (λ x. list_any (p x) ys) xs ≡ list_any (λ y. list_any (λ x. p x y) xs) ys
any_swap p [] ys = sym (any_none (λ y. false) (λ y. refl) ys)
any_swap p (x ∷ xs) ys = ap (λ b. list_any (p x) ys || b) (any_swap p xs ys) ∙ any_or (p x) (λ y. list_any (λ z. p z y) xs) ys

-- ---- the set of one atom

one_listed : (a : Atom) → set.items (atoms (a ∷ [])) ≡ a ∷ []
unfolding finite.keys finite.insert finite.checked finite.empty
one_listed a = refl

abbrev elements : Value → List Atom
elements (set_of s) = set.items s
elements (map_of m) = []

-- what lies alone in a list is the one element of its set
pub lone_listed : (o : Option (Bor (code.Atom))) (xs : List (code.Atom)) (v : Value) → option_map (λ a. a.now) o ≡ lone_of xs → set_in xs ≡ v → IfSome o (λ a. v ≡ one (atom_of a.now))
lone_listed None xs v is in_set = tt
lone_listed (Some a) [] v is in_set = absurd (none-some a.now (sym is))
lone_listed (Some a) (x ∷ []) v is in_set = sym in_set ∙ set_in-only (x ∷ []) a.now (ap (λ y. y ∷ []) (sym (same_Some a.now x is)))
lone_listed (Some a) (x ∷ y ∷ ys) v is in_set = absurd (none-some a.now (sym is))

includes_one : (s : Atoms) (a : Atom) → includes_all (set_of s) (one a) ≡ list_any (same_atom a) (set.items s)
includes_one s a = ap (list_all (set.contains s)) (one_listed a) ∙ and_true (set.contains s a) ∙ contains_key-keys s a

turned : (a b : Atom) → same_atom a b ≡ same_atom b a
turned a b = (eq_by_cmp_equiv atom_cmp_total).symm a b

-- a set of one is the set of the atom where that is the element; any other set isn't
equals_one : (s : Atoms) (a : Atom) → same_value (set_of s) (one a) ≡ ((length (set.items s) == 1) && list_any (same_atom a) (set.items s))
equals_one s a = by (set.items s) refl
  where
    by : (xs : List Atom) → set.items s ≡ xs → same_value (set_of s) (one a) ≡ ((length xs == 1) && list_any (same_atom a) xs)
    by [] e = ap (λ b. b && includes_all (one a) (set_of s)) (includes_one s a ∙ ap (list_any (same_atom a)) e)
    by (x ∷ []) e =
        let it_has : includes_all (set_of s) (one a) ≡ (same_atom a x || false) = includes_one s a ∙ ap (list_any (same_atom a)) e in
        let is_had : includes_all (one a) (set_of s) ≡ ((same_atom a x || false) && true) = ap (list_all (set.contains (atoms (a ∷ [])))) e ∙ ap (λ b. b && true) (contains-from_list atom_cmp_total (a ∷ []) x ∙ ap (λ b. b || false) (turned x a)) in
        (λ i. it_has i && is_had i) ∙ twice (same_atom a x || false)
    by (x ∷ y ∷ zs) e = differs (same_value (set_of s) (one a)) refl ∙ ap (λ b. b && list_any (same_atom a) (x ∷ y ∷ zs)) (more_than_one)
      where
        more_than_one : false ≡ (length (x ∷ y ∷ zs) == 1)
        more_than_one = grind (arith, nat_tests)

        differs : (b : Bool) → same_value (set_of s) (one a) ≡ b → b ≡ false
        differs true same = let listed : (x ∷ y ∷ zs) ≡ (a ∷ []) = sym e ∙ ap elements (same_value-equal (set_of s) (one a) same) ∙ one_listed a in absurd (omega (arith, ap length listed))
        differs false same = refl

asks_set : (is_equality : Bool) (s : Atoms) (a : Atom) → asks is_equality (set_of s) a ≡ ((not is_equality || (length (set.items s) == 1)) && list_any (same_atom a) (set.items s))
asks_set true s a = equals_one s a
asks_set false s a = includes_one s a

-- ---- the search

pub found : (is_equality : Bool) (ks : List (code.Atom)) (es : List (code.Atom)) (v : Value) → Lists (entries.Set es) v → found_in is_equality ks es ≡ asks_some is_equality ks v
found is_equality ks es (set_of s) listed =
    let alone : List Atom → Bool = λ xs. not is_equality || (length xs == 1) in
    let each : (k : code.Atom) → list_any (same_atom (atom_of k)) (set.items s) ≡ list_any (λ e. same_atom (atom_of e) (atom_of k)) es = λ k.
    ap (list_any (same_atom (atom_of k))) (sym listed)
    ∙ any-map (same_atom (atom_of k)) atom_of es
    ∙ (λ i. list_any (λ e. turned (atom_of k) (atom_of e) i) es) in
    sym ((λ i. list_any (λ k. asks_set is_equality s (atom_of k) i) ks)
    ∙ any_and (alone (set.items s)) (λ k. list_any (same_atom (atom_of k)) (set.items s)) ks
    ∙ (λ i. alone (sym listed i) && list_any (λ k. each k i) ks)
    ∙ (λ i. (not is_equality || (length-map es atom_of i == 1)) && any_swap (λ k e. same_atom (atom_of e) (atom_of k)) ks es i))
found is_equality ks es (map_of m) listed = absurd listed

asks_map : (is_equality : Bool) (m : _) (a : Atom) → asks is_equality (map_of m) a ≡ false
asks_map true m a = refl
asks_map false m a = refl

-- no condition that asks for one atom holds of a map
pub none_in_map : (is_equality : Bool) (ks : List (code.Atom)) (es : List (code.Atom × code.Atom)) (v : Value) → Lists (entries.Map es) v → false ≡ asks_some is_equality ks v
none_in_map is_equality ks es (set_of s) listed = absurd listed
none_in_map is_equality ks es (map_of m) listed = sym (any_none (λ k. asks is_equality (map_of m) (atom_of k)) (λ k. asks_map is_equality m (atom_of k)) ks)

no_element : (alone : List Atom → Bool) (a : Atom) → (alone (set.items {R = atom_cmp} set.empty) && list_any (same_atom a) (set.items {R = atom_cmp} set.empty)) ≡ false
unfolding finite.keys finite.empty
no_element alone a = and_false (alone [])

-- nor of the empty set
pub none_in_nothing : (is_equality : Bool) (ks : List (code.Atom)) → asks_some is_equality ks (set_of set.empty) ≡ false
none_in_nothing is_equality ks = any_none (λ k. asks is_equality (set_of set.empty) (atom_of k)) (λ k. asks_set is_equality set.empty (atom_of k) ∙ no_element (λ xs. not is_equality || (length xs == 1)) (atom_of k)) ks

-- ---- one atom more

pub one_atom_more : (is_equality : Bool) (v : Value) (ks : List (code.Atom)) (k : code.Atom) → asks_some is_equality (ks ++ k ∷ []) v ≡ (asks_some is_equality ks v || asks is_equality v (atom_of k))
one_atom_more is_equality v ks k = list_any-append (λ a. asks is_equality v (atom_of a)) ks (k ∷ []) ∙ ap (λ b. asks_some is_equality ks v || b) (or_false (asks is_equality v (atom_of k)))
  where
    or_false : (b : Bool) → (b || false) ≡ b
    or_false true = refl
    or_false false = refl

-- ---- atoms in their order

abbrev pub atoms_cmp : code.Atom → code.Atom → Ordering
atoms_cmp x y = atom_cmp (atom_of x) (atom_of y)

-- one that is at a place is among them
pub among_at : (ks : List (code.Atom)) (i : ℕ) (k x : code.Atom) → i < length ks → atoms_cmp (get_or ks i k) x ≡ Equal → true ≡ is_among ks (atom_of x)
among_at ks i k x low at = sym (list_any_at (λ b. same_atom (atom_of x) (atom_of b)) ks i k low (turned (atom_of x) (atom_of (get_or ks i k)) ∙ ap is_eq at))

none_at : {X : Type 0} (p : X → Bool) (xs : List X) → ((i : ℕ) (d : X) → i < length xs → p (get_or xs i d) ≡ false) → list_any p xs ≡ false
none_at p [] none = refl
none_at p (x ∷ xs) none = ap (λ b. b || list_any p xs) (none 0 x (omega arith)) ∙ none_at p xs (λ i d low. none (suc i) d (omega arith))

-- where a search finds no place, it isn't
pub not_among : (ks : List (code.Atom)) (i : ℕ) (x : code.Atom) → IsSorted atoms_cmp ks → (IsNonDecreasingBy (λ k. ordering_index (atoms_cmp k x)) ks → IsPartitionPoint (λ k. atoms_cmp k x ≡ Less) (λ k. atoms_cmp k x ≡ Greater) ks i) → false ≡ is_among ks (atom_of x)
not_among ks i x sorted found =
    let parts = found (searchable_from_sorted atom_cmp_total atom_of ks (atom_of x) sorted) in
    let apart : (k : ℕ) (d : code.Atom) → k < length ks → is_eq (atoms_cmp (get_or ks k d) x) ≡ false = λ k d low. ⊎_elim (λ early. ap is_eq (parts.0 k d (omega arith) early)) (λ late. ap is_eq (parts.1 k d late low)) (cases_lt k i) in
    sym (none_at (λ b. same_atom (atom_of x) (atom_of b)) ks (λ k d low. turned (atom_of x) (atom_of (get_or ks k d)) ∙ apart k d low))
