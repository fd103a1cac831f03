-- The union of two sets of atoms: what holds of each of its elements, and its size.
use Rattle.std.specs.Prelude.{◌≡◌, ◌+◌, ◌≤◌, Bool, true, false, cond, not, ◌&&◌, ◌||◌, List, [], ◌∷◌, length, is_some}
use Rattle.std.specs.List.{list_all}
use Rattle.std.specs.FinMap.Entries.{length-put}
use Rattle.std.proofs.Common.{arith}
use mathlib.Core.Logic.{inl, inr}
use mathlib.Core.Path.{refl, sym, ap, ◌∙◌}
use Rattle.odb_atoms.specs.FinMap as finite
use Rattle.odb_atoms.specs.FinSet as set
use Rattle.odb_atoms.specs.Atom.{Atom, atom_cmp, same_atom}
use Rattle.odb_atoms.specs.Value.{Atoms}
use Rattle.odb_atoms.specs.Represented.AtomOrder.{atom_cmp_total}
use Rattle.odb_atoms.proofs.Atoms.{atom_cmp-IsAntisymmetric}
use Rattle.odb_atoms.proofs.Equal.{same_atom-itself}
use Rattle.odb_atoms.proofs.FinMaps.{contains_key-keys, entries-insert, get-empty, same_key}
use Rattle.odb_atoms.proofs.FinSets.{contains-difference, contains-union, same_set}
use Rattle.odb_atoms.proofs.Lists.{Member, all_gives, any_gives, either, gives_all, gives_any}

-- ---- elements

-- each element of s is one of t
abbrev pub IsWithin : Atoms → Atoms → Type 0
IsWithin s t = (q : Atom) → set.contains s q ≡ true → set.contains t q ≡ true

passes : (p : Atom → Bool) (s : Atoms) → list_all p (set.items s) ≡ true → (q : Atom) → set.contains s q ≡ true → p q ≡ true
passes p s all q in_s =
    let found : (x : Atom) × Member x (set.items s) × (same_atom q x ≡ true) = any_gives (same_atom q) (set.items s) (sym (contains_key-keys s q) ∙ in_s) in
    ap p (same_key atom_cmp-IsAntisymmetric q found.0 found.2) ∙ all_gives p (set.items s) all found.0 found.1

all_pass : (p : Atom → Bool) (s : Atoms) → ((q : Atom) → set.contains s q ≡ true → p q ≡ true) → list_all p (set.items s) ≡ true
all_pass p s h = gives_all p (set.items s) (λ q m. h q (contains_key-keys s q ∙ gives_any (same_atom q) (set.items s) q m (same_atom-itself q)))

pub each_within : (p : Atom → Bool) (s t : Atoms) → IsWithin s t → list_all p (set.items t) ≡ true → list_all p (set.items s) ≡ true
each_within p s t h all = all_pass p s (λ q e. passes p t all q (h q e))

pub each_united : (p : Atom → Bool) (s t : Atoms) → list_all p (set.items s) ≡ true → list_all p (set.items t) ≡ true → list_all p (set.items (set.union s t)) ≡ true
each_united p s t left right = all_pass p (set.union s t) (λ q e. at q (sym (contains-union atom_cmp_total s t q) ∙ e))
  where
    at : (q : Atom) → (set.contains s q || set.contains t q) ≡ true → p q ≡ true
    at q e = elim (either (set.contains s q) (set.contains t q) e) as (λ _. p q ≡ true) [ inl h ↦ passes p s left q h | inr h ↦ passes p t right q h ]

pub part_within : (s t : Atoms) → IsWithin s (set.union s t)
part_within s t = λ q e. contains-union atom_cmp_total s t q ∙ ap (λ b. b || set.contains t q) e

-- ---- which sets are the same

-- t and u together, or one after the other
pub regrouped : (s t u : Atoms) → set.union s (set.union t u) ≡ set.union (set.union s t) u
regrouped s t u =
    same_set atom_cmp_total atom_cmp-IsAntisymmetric (set.union s (set.union t u)) (set.union (set.union s t) u) (λ q.
    contains-union atom_cmp_total s (set.union t u) q
    ∙ ap (λ b. set.contains s q || b) (contains-union atom_cmp_total t u q)
    ∙ grouped (set.contains s q) (set.contains t q) (set.contains u q)
    ∙ ap (λ b. b || set.contains u q) (sym (contains-union atom_cmp_total s t q))
    ∙ sym (contains-union atom_cmp_total (set.union s t) u q))
  where
    grouped : (a b c : Bool) → (a || (b || c)) ≡ ((a || b) || c)
    grouped true b c = refl
    grouped false b c = refl

turned : (s t : Atoms) → set.union s t ≡ set.union t s
turned s t =
    same_set atom_cmp_total atom_cmp-IsAntisymmetric (set.union s t) (set.union t s) (λ q.
    contains-union atom_cmp_total s t q ∙ swapped (set.contains s q) (set.contains t q) ∙ sym (contains-union atom_cmp_total t s q))
  where
    swapped : (a b : Bool) → (a || b) ≡ (b || a)
    swapped true true = refl
    swapped true false = refl
    swapped false true = refl
    swapped false false = refl

pub with_nothing : (s : Atoms) → set.union set.empty s ≡ s
with_nothing s =
    same_set atom_cmp_total atom_cmp-IsAntisymmetric (set.union set.empty s) s (λ q.
    contains-union atom_cmp_total set.empty s q ∙ ap (λ o. is_some o || set.contains s q) (get-empty atom_cmp q))

pub nothing_left : (s : Atoms) → set.difference set.empty s ≡ set.empty
nothing_left s =
    same_set atom_cmp_total atom_cmp-IsAntisymmetric (set.difference set.empty s) set.empty (λ q.
    contains-difference atom_cmp_total atom_cmp-IsAntisymmetric set.empty s q
    ∙ ap (λ o. is_some o && not (set.contains s q)) (get-empty atom_cmp q)
    ∙ sym (ap is_some (get-empty atom_cmp q)))

-- ---- sizes

pub no_elements : set.items (let none : Atoms = set.empty in none) ≡ []
unfolding finite.keys finite.empty
no_elements = refl

pub size_of_nothing : set.len (let none : Atoms = set.empty in none) ≡ 0
unfolding finite.len finite.empty
size_of_nothing = refl

len-insert : (s : Atoms) (a : Atom) → set.len (set.insert s a) ≡ cond (set.contains s a) (set.len s) (set.len s + 1)
unfolding finite.len finite.get
len-insert s a = ap length (entries-insert atom_cmp_total s a tt) ∙ length-put atom_cmp atom_cmp_total a tt s.entries s.sorted

grows : (s : Atoms) (a : Atom) → set.len s ≤ set.len (set.insert s a)
grows s a = by (set.contains s a) (len-insert s a)
  where
    by : (b : Bool) → set.len (set.insert s a) ≡ cond b (set.len s) (set.len s + 1) → set.len s ≤ set.len (set.insert s a)
    by true e = omega (arith, e)
    by false e = omega (arith, e)

all_grow : (s : Atoms) (list : List Atom) → set.len s ≤ set.len (set.insert_all s list)
all_grow s [] = omega arith
all_grow s (a ∷ list) =
    let here : set.len (set.insert_all s list) ≤ set.len (set.insert (set.insert_all s list) a) = grows (set.insert_all s list) a in
    let rest : set.len s ≤ set.len (set.insert_all s list) = all_grow s list in
    omega (arith, here, rest)

pub united_grows : (s t : Atoms) → set.len s ≤ set.len (set.union s t)
united_grows s t = all_grow s (set.items t)

pub united_has : (s t : Atoms) → set.len t ≤ set.len (set.union s t)
united_has s t =
    let more : set.len t ≤ set.len (set.union t s) = united_grows t s in
    let same : set.len (set.union t s) ≡ set.len (set.union s t) = ap set.len (turned t s) in
    omega (arith, more, same)
