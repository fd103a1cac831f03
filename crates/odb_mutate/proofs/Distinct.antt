-- Lists in which no atom stands twice, and lists of one kind: those that make a value.
use Rattle.std.specs.Prelude.{◌≡◌, ℕ, suc, ◌+◌, ◌≤◌, Bool, true, false, cond, not, ◌&&◌, ◌||◌, ◌==◌, nat_lt, T, List, [], ◌∷◌, length, map, filter, Some, None}
use Rattle.std.specs.List.{list_all, list_any}
use Rattle.std.specs.Ordering.{is_eq, is_lt}
use Rattle.std.specs.FinMap.Entries.{below_all, is_sorted, length-put}
use Rattle.std.proofs.Common.{add-one, arith}
use Rattle.std.proofs.lemmas.Bool.{eqb-true, le-ltb}
use Rattle.std.proofs.lemmas.Bool.Decides.{nat_tests}
use mathlib.Core.Path.{refl, sym, ap, subst, ◌∙◌}
use Rattle.odb_atoms.specs.FinMap as finite
use Rattle.odb_atoms.specs.FinSet as set
use Rattle.odb_atoms.specs.Atom.{Atom, Kind, atom_cmp, kind_of, rank, same_atom}
use Rattle.odb_atoms.specs.ColType.{is_a}
use Rattle.odb_atoms.specs.Members.{are_of_one_kind, keys, map_fault, mixed_kinds, repeated, repeats, set_fault, values}
use Rattle.odb_atoms.specs.Value.{Atoms, atoms}
use Rattle.odb_atoms.specs.Represented.AtomOrder.{atom_cmp_total}
use Rattle.odb_atoms.proofs.FinMaps.{entries-insert}
use Rattle.odb_atoms.proofs.FinSets.{contains-from_list}
use Rattle.odb_atoms.proofs.Lists.{both}
use Rattle.odb_atoms.proofs.Rising.{first, less, second}

-- no atom ties with a later one
abbrev pub IsDistinct : List Atom → Type 0
IsDistinct [] = Unit {0}
IsDistinct (a ∷ rest) = (list_any (same_atom a) rest ≡ false) × IsDistinct rest

-- ---- the size of their set

len-insert : (s : Atoms) (a : Atom) → set.len (set.insert s a) ≡ cond (set.contains s a) (set.len s) (set.len s + 1)
unfolding finite.len finite.get
len-insert s a = ap length (entries-insert atom_cmp_total s a tt) ∙ length-put atom_cmp atom_cmp_total a tt s.entries s.sorted

len-atoms : (a : Atom) (rest : List Atom) → set.len (atoms (a ∷ rest)) ≡ cond (list_any (same_atom a) rest) (set.len (atoms rest)) (set.len (atoms rest) + 1)
len-atoms a rest = len-insert (atoms rest) a ∙ ap (λ b. cond b (set.len (atoms rest)) (set.len (atoms rest) + 1)) (contains-from_list atom_cmp_total rest a)

len-nothing : set.len (atoms []) ≡ 0
unfolding finite.len finite.empty
len-nothing = refl

len-distinct : (list : List Atom) → IsDistinct list → set.len (atoms list) ≡ length list
len-distinct [] h = len-nothing
len-distinct (a ∷ rest) h = len-atoms a rest ∙ ap (λ b. cond b (set.len (atoms rest)) (set.len (atoms rest) + 1)) h.0 ∙ add-one (set.len (atoms rest)) ∙ ap suc (len-distinct rest h.1)

len-upto : (list : List Atom) → set.len (atoms list) ≤ length list
len-upto [] = omega (arith, len-nothing)
len-upto (a ∷ rest) = by (list_any (same_atom a) rest) (len-atoms a rest) (len-upto rest)
  where
    by : (b : Bool) → set.len (atoms (a ∷ rest)) ≡ cond b (set.len (atoms rest)) (set.len (atoms rest) + 1) → set.len (atoms rest) ≤ length rest → set.len (atoms (a ∷ rest)) ≤ length (a ∷ rest)
    by true e low = omega (arith, e, low)
    by false e low = omega (arith, e, low)

-- a list has as many elements as its set where none stands twice
pub counted : (list : List Atom) → (set.len (atoms list) == length list) ≡ not (repeats list)
counted list = tests (set.len (atoms list)) (length list) (len-upto list)
  where
    tests : (n m : ℕ) → n ≤ m → (n == m) ≡ not (nat_lt n m)
    tests n m low = grind (arith, nat_tests)

repeats-distinct : (list : List Atom) → IsDistinct list → repeats list ≡ false
repeats-distinct list h = ap (λ n. nat_lt n (length list)) (len-distinct list h) ∙ le-ltb (length list) (length list) (omega arith)

-- ---- which lists are distinct

module _ {V : Type 0} where
  below-none : (k : Atom) (es : List (Atom × V)) → T (below_all atom_cmp k es) → list_any (same_atom k) (map (λ e. e.0) es) ≡ false
  below-none k [] h = refl
  below-none k (e ∷ es) h =
      let here = first (is_lt (atom_cmp k e.0)) (below_all atom_cmp k es) h in
      let later = second (is_lt (atom_cmp k e.0)) (below_all atom_cmp k es) h in
      λ i. is_eq (less (atom_cmp k e.0) here i) || below-none k es later i

  -- rising keys
  pub distinct-rising : (es : List (Atom × V)) → T (is_sorted atom_cmp es) → IsDistinct (map (λ e. e.0) es)
  distinct-rising [] h = tt
  distinct-rising (e ∷ es) h = (below-none e.0 es (first _ _ h), distinct-rising es (second _ _ h))

module _ {X : Type 0} (f : X → Atom) where
  none-filter : (p : X → Bool) (a : Atom) (xs : List X) → list_any (same_atom a) (map f xs) ≡ false → list_any (same_atom a) (map f (filter p xs)) ≡ false
  none-filter p a [] h = refl
  none-filter p a (x ∷ xs) h =
      let parts = neither (same_atom a (f x)) (list_any (same_atom a) (map f xs)) h in
      let rest = none-filter p a xs parts.1 in
      elim (p x) as (λ b. list_any (same_atom a) (map f (cond b (x ∷ filter p xs) (filter p xs))) ≡ false) [ true ↦ (λ i. parts.0 i || rest i) | false ↦ rest ]
    where
      neither : (a b : Bool) → (a || b) ≡ false → (a ≡ false) × (b ≡ false)
      neither true b e = (e, absurd (subst T e tt))
      neither false b e = (refl, e)

  -- some of them
  pub distinct-filter : (p : X → Bool) (xs : List X) → IsDistinct (map f xs) → IsDistinct (map f (filter p xs))
  distinct-filter p [] h = tt
  distinct-filter p (x ∷ xs) h =
      let rest = distinct-filter p xs h.1 in
      elim (p x) as (λ b. IsDistinct (map f (cond b (x ∷ filter p xs) (filter p xs)))) [ true ↦ (none-filter p (f x) xs h.0, rest) | false ↦ rest ]

-- ---- kinds

one_kind : (k : Kind) (list : List Atom) → list_all (is_a k) list ≡ true → are_of_one_kind list ≡ true
one_kind k [] h = refl
one_kind k (a ∷ rest) h =
    let parts = both (is_a k a) (list_all (is_a k) rest) h in
    subst (λ n. list_all (λ b. rank (kind_of b) == n) rest ≡ true) (sym (eqb-true (rank (kind_of a)) (rank k) parts.0)) parts.1

-- a list that makes a set
pub set_fault-none : (k : Kind) (list : List Atom) → list_all (is_a k) list ≡ true → IsDistinct list → set_fault list ≡ None
set_fault-none k list one apart = λ i. cond (not (one_kind k list one i)) (Some mixed_kinds) (cond (repeats-distinct list apart i) (Some repeated) None)

-- a list that makes a set, or has an element twice
pub set_fault-repeats : (k : Kind) (list : List Atom) → list_all (is_a k) list ≡ true → set_fault list ≡ cond (repeats list) (Some repeated) None
set_fault-repeats k list one = λ i. cond (not (one_kind k list one i)) (Some mixed_kinds) (cond (repeats list) (Some repeated) None)

in_pairs : (p q : Atom → Bool) (list : List (Atom × Atom)) → list_all (λ e. p e.0 && q e.1) list ≡ true → (list_all p (keys list) ≡ true) × (list_all q (values list) ≡ true)
in_pairs p q [] h = (refl, refl)
in_pairs p q (e ∷ rest) h =
    let parts = both (p e.0 && q e.1) (list_all (λ e. p e.0 && q e.1) rest) h in
    let here = both (p e.0) (q e.1) parts.0 in
    let later = in_pairs p q rest parts.1 in
    ((λ i. here.0 i && later.0 i), (λ i. here.1 i && later.1 i))

-- a list that makes a map
pub map_fault-none : (k l : Kind) (list : List (Atom × Atom)) → list_all (λ e. is_a k e.0 && is_a l e.1) list ≡ true → IsDistinct (keys list) → map_fault list ≡ None
map_fault-none k l list of apart =
    let kinds = in_pairs (is_a k) (is_a l) list of in
    λ i. cond (not (one_kind k (keys list) kinds.0 i && one_kind l (values list) kinds.1 i)) (Some mixed_kinds) (cond (repeats-distinct (keys list) apart i) (Some repeated) None)
