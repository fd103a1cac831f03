-- The order of values: it goes by their entries, and ties equal values alone.
use Rattle.std.specs.Prelude.{◌≡◌, Bool, true, false, cond, ◌&&◌, T, List, [], ◌∷◌, map, refl, Some}
use mathlib.Core.Path.{sym, ap, ◌∙◌}
use mathlib.Core.Bool.{true≢false}
use Rattle.std.proofs.Common.{inl, inr}
use Rattle.std.specs.declared.cmp.Ordering.{Ordering}
use Rattle.std.specs.declared.cmp.Ordering.TheVariants.{Less, Equal, Greater}
use Rattle.std.specs.Cmp.{both_ways, tied_itself}
use Rattle.std.specs.Cmp.Lexicographic.{lists_ties, slice_cmp}
use Rattle.std.specs.FinMap.{IsAntisymmetric, slice_cmp-IsAntisymmetric}
use Rattle.std.specs.List.{list_all, list_any}
use Rattle.std.specs.Ordering.{eq_by_cmp, is_eq, ordering_reverse, ordering_then}
use Rattle.odb_atoms.specs.Atom as model
use Rattle.odb_atoms.specs.Atom.{atom_cmp, same_atom}
use Rattle.odb_atoms.specs.FinSet as set
use Rattle.odb_atoms.specs.FinMap.{same_entries_map}
use Rattle.odb_atoms.specs.Members.{pair_cmp, value_cmp}
use Rattle.odb_atoms.specs.Value.{Atoms, Pairs, Value, has_pair, includes_all, is_atom, map_of, same_value, set_of}
use Rattle.odb_atoms.specs.Represented.Atom.{atom_of}
use Rattle.odb_atoms.specs.Represented.Value.{AreAscending, HaveAscendingKeys, map_in, pair_of, set_in}
use Rattle.odb_atoms.specs.declared.atom.Atom.{Atom}
use Rattle.odb_atoms.proofs.Atoms.{atom_cmp-IsAntisymmetric}
use Rattle.odb_atoms.specs.Represented.AtomOrder.{atom_cmp_total}
use Rattle.odb_atoms.proofs.FinMaps.{contains_key-keys, get-entries}
use Rattle.odb_atoms.proofs.FinSets.{same_set}
use Rattle.odb_atoms.proofs.Lists.{Member, gives_all, gives_any}
use Rattle.odb_atoms.proofs.Represented.Values.{items-from_sorted, pairs-from_sorted}
use Rattle.std.specs.FinMap.Entries.{below_all, find, is_sorted}
use Rattle.odb_atoms.specs.Represented.ValueOrder.{values_total}
use Rattle.odb_atoms.proofs.Rising.{equal, first, less, second}
use Rattle.odb_atoms.proofs.Values.{same_value-equal}

slice_cmp-map : {X A : Type 0} (f : X → A) (R : A → A → Ordering) (xs ys : List X) → slice_cmp (λ x y. R (f x) (f y)) xs ys ≡ slice_cmp R (map f xs) (map f ys)
slice_cmp-map f R [] [] = refl
slice_cmp-map f R [] (y ∷ ys) = refl
slice_cmp-map f R (x ∷ xs) [] = refl
slice_cmp-map f R (x ∷ xs) (y ∷ ys) = ap (ordering_then (R (f x) (f y))) (slice_cmp-map f R xs ys)

pub value_cmp-set_in : (xs ys : List Atom) (v w : Value) → AreAscending xs → AreAscending ys → set_in xs ≡ v → set_in ys ≡ w → slice_cmp (λ a b. atom_cmp (atom_of a) (atom_of b)) xs ys ≡ value_cmp v w
value_cmp-set_in xs ys v w h k is_v is_w =
    slice_cmp-map atom_of atom_cmp xs ys
    ∙ (λ i. slice_cmp atom_cmp (sym (items-from_sorted xs h) i) (sym (items-from_sorted ys k) i))
    ∙ (λ i. value_cmp (is_v i) (is_w i))

pub value_cmp-map_in : (xs ys : List (Atom × Atom)) (v w : Value) → HaveAscendingKeys xs → HaveAscendingKeys ys → map_in xs ≡ v → map_in ys ≡ w → slice_cmp (λ p q. pair_cmp (pair_of p) (pair_of q)) xs ys ≡ value_cmp v w
value_cmp-map_in xs ys v w h k is_v is_w =
    slice_cmp-map pair_of pair_cmp xs ys
    ∙ (λ i. slice_cmp pair_cmp (sym (pairs-from_sorted xs h) i) (sym (pairs-from_sorted ys k) i))
    ∙ (λ i. value_cmp (is_v i) (is_w i))

-- ---- what ties is equal

both_tie : (r s : Ordering) → ordering_then r s ≡ Equal → (r ≡ Equal) × (s ≡ Equal)
both_tie Less s e = absurd (true≢false (sym (ap is_eq e)))
both_tie Equal s e = (refl, e)
both_tie Greater s e = absurd (true≢false (sym (ap is_eq e)))

pair_cmp-IsAntisymmetric : IsAntisymmetric pair_cmp
pair_cmp-IsAntisymmetric p q e =
    let h = both_tie (atom_cmp p.0 q.0) (atom_cmp p.1 q.1) e in
    λ i. (atom_cmp-IsAntisymmetric p.0 q.0 h.0 i, atom_cmp-IsAntisymmetric p.1 q.1 h.1 i)

same_items : (s t : Atoms) → set.items s ≡ set.items t → s ≡ t
same_items s t is = same_set atom_cmp_total atom_cmp-IsAntisymmetric s t (λ q. contains_key-keys s q ∙ ap (list_any (eq_by_cmp atom_cmp q)) is ∙ sym (contains_key-keys t q))

tied : (v w : Value) → value_cmp v w ≡ Equal → v ≡ w
tied (set_of s) (set_of t) e = ap set_of (same_items s t (slice_cmp-IsAntisymmetric atom_cmp-IsAntisymmetric (set.items s) (set.items t) e))
tied (set_of s) (map_of n) e = absurd (true≢false (sym (ap is_eq e)))
tied (map_of m) (set_of t) e = absurd (true≢false (sym (ap is_eq e)))
tied (map_of m) (map_of n) e = ap map_of (same_entries_map m n (slice_cmp-IsAntisymmetric pair_cmp-IsAntisymmetric m.entries n.entries e))

-- ---- the test of equal values

before : (k : model.Atom) (es : List (model.Atom × model.Atom)) → T (below_all atom_cmp k es) → (e : model.Atom × model.Atom) → Member e es → atom_cmp k e.0 ≡ Less
before k [] h e stands = absurd stands
before k (f ∷ fs) h e (inl is) = ap (λ g. atom_cmp k g.0) is ∙ less _ (first _ _ h)
before k (f ∷ fs) h e (inr later) = before k fs (second _ _ h) e later

-- a pair of a rising list is found at its key
find-stands : (es : List (model.Atom × model.Atom)) → T (is_sorted atom_cmp es) → (e : model.Atom × model.Atom) → Member e es → find atom_cmp e.0 es ≡ Some e.1
find-stands [] up e stands = absurd stands
find-stands (f ∷ fs) up e (inl is) = ap (λ r. cond (is_eq r) (Some f.1) (find atom_cmp e.0 fs)) (ap (λ g. atom_cmp g.0 f.0) is ∙ tied_itself atom_cmp_total f.0) ∙ ap (λ g. Some g.1) (sym is)
find-stands (f ∷ fs) up e (inr later) =
    ap (λ r. cond (is_eq r) (Some f.1) (find atom_cmp e.0 fs)) (atom_cmp_total.antisymm e.0 f.0 ∙ ap ordering_reverse (before f.0 fs (first _ _ up) e later))
    ∙ find-stands fs (second _ _ up) e later

has_own : (s : Atoms) → list_all (set.contains s) (set.items s) ≡ true
has_own s = gives_all (set.contains s) (set.items s) (λ q stands. contains_key-keys s q ∙ gives_any (eq_by_cmp atom_cmp q) (set.items s) q stands (ap is_eq (tied_itself atom_cmp_total q)))

own_pairs : (m : Pairs) → list_all (has_pair m) m.entries ≡ true
own_pairs m = gives_all (has_pair m) m.entries (λ e stands. ap (λ o. is_atom o e.1) (get-entries m e.0 ∙ find-stands m.entries m.sorted e stands) ∙ ap is_eq (tied_itself atom_cmp_total e.1))

includes_itself : (v : Value) → includes_all v v ≡ true
includes_itself (set_of s) = has_own s
includes_itself (map_of m) = own_pairs m

same_itself : (v : Value) → same_value v v ≡ true
same_itself v = λ i. includes_itself v i && includes_itself v i

-- it is that the order ties
pub eq_by_cmp-value_cmp : (v w : Value) → eq_by_cmp value_cmp v w ≡ same_value v w
eq_by_cmp-value_cmp v w =
    both_ways (eq_by_cmp value_cmp v w) (same_value v w)
    (λ e. ap (same_value v) (sym (tied v w (equal (value_cmp v w) e))) ∙ same_itself v)
    (λ e. ap (eq_by_cmp value_cmp v) (sym (same_value-equal v w e)) ∙ ap is_eq (tied_itself values_total v))

-- ---- two sets of one atom each

alone : (b : Bool) → b ≡ (b && true)
alone true = refl
alone false = refl

pub one_ties : (a b : Atom) (v w : Value) → set_in (a ∷ []) ≡ v → set_in (b ∷ []) ≡ w → same_atom (atom_of a) (atom_of b) ≡ eq_by_cmp value_cmp v w
one_ties a b v w is_v is_w =
    alone (same_atom (atom_of a) (atom_of b))
    ∙ lists_ties (λ x y. atom_cmp (atom_of x) (atom_of y)) (λ x y. refl) (a ∷ []) (b ∷ [])
    ∙ ap is_eq (value_cmp-set_in (a ∷ []) (b ∷ []) v w tt tt is_v is_w)
