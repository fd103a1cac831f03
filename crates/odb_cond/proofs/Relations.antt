-- How two sets stand to each other, by their elements; and what stands to the empty set.
use Rattle.std.specs.Prelude.{◌≡◌, Bool, true, false, not, ◌&&◌, ◌==◌, length, List, [], ◌∷◌, map, is_some}
use Rattle.std.specs.List.{list_all, list_any}
use Rattle.std.specs.declared.cmp.Ordering.{Ordering}
use Rattle.std.proofs.Common.{arith}
use Rattle.std.proofs.lemmas.Bool.Decides.{nat_tests}
use mathlib.Core.Path.{refl, sym, ap, ◌∙◌}
use Rattle.odb_atoms.specs.Atom as model
use Rattle.odb_atoms.specs.Atom.{atom_cmp}
use Rattle.odb_atoms.specs.FinMap as finite
use Rattle.odb_atoms.specs.FinSet as set
use Rattle.odb_atoms.specs.Members.{excludes_all}
use Rattle.odb_atoms.specs.Represented.Atom.{atom_of}
use Rattle.odb_atoms.specs.Represented.Value.{Lists}
use Rattle.odb_atoms.specs.Value.{Atoms, Value, includes_all, is_map, map_of, same_value, set_of, size}
use Rattle.odb_atoms.specs.declared.atom.Atom.{Atom}
use Rattle.odb_atoms.specs.declared.value.Entries.TheVariants as entries
use Rattle.odb_atoms.proofs.FinMaps.{get-empty}
use Rattle.odb_atoms.proofs.Represented.Orders.{eq_by_cmp-value_cmp}
use Rattle.odb_atoms.proofs.Lists.{any-map, gives_all}
use Rattle.std.proofs.lemmas.List.Folds.{list_all-map}
use Rattle.odb_cond.specs.Condition.{compares}
use Rattle.odb_cond.specs.Represented.Clause.{some_stands}

stands_to : (Ordering → Bool) → List model.Atom → model.Atom → Bool
stands_to test others a = list_any (λ b. test (atom_cmp a b)) others

pub compares-listed : (test : Ordering → Bool) (s t : List Atom) (v w : Value) → Lists (entries.Set s) v → Lists (entries.Set t) w → list_any (λ a. some_stands test (atom_of a) t) s ≡ compares test v w
unfolding stands_to
compares-listed test s t (set_of c) (set_of d) in_s in_t =
    (λ i. list_any (λ (a : Atom). sym (any-map (λ b. test (atom_cmp (atom_of a) b)) atom_of t) i) s)
    ∙ sym (any-map (stands_to test (map atom_of t)) atom_of s)
    ∙ (λ i. list_any (stands_to test (in_t i)) (in_s i))
compares-listed test s t (set_of c) (map_of n) in_s in_t = absurd in_t
compares-listed test s t (map_of m) (set_of d) in_s in_t = absurd in_s
compares-listed test s t (map_of m) (map_of n) in_s in_t = absurd in_s

-- ---- the empty set

all_of_none : {X : Type 0} (p : X → Bool) → ((x : X) → p x ≡ false) → (xs : List X) → list_all p xs ≡ (length xs == 0)
all_of_none p not_one [] = refl
all_of_none p not_one (x ∷ xs) = ap (λ b. b && list_all p xs) (not_one x) ∙ grind (arith, nat_tests)

all_in_nothing : (s : Atoms) → list_all (set.contains {R = atom_cmp} set.empty) (set.items s) ≡ (set.len s == 0)
unfolding finite.keys finite.len
all_in_nothing s = list_all-map _ (λ e. e.0) s.entries ∙ all_of_none _ (λ e. ap is_some (get-empty atom_cmp e.0)) s.entries

none_of_nothing : (s : Atoms) → list_all (λ a. not (set.contains {R = atom_cmp} set.empty a)) (set.items s) ≡ true
none_of_nothing s = gives_all _ (set.items s) (λ a _. ap (λ o. not (is_some o)) (get-empty atom_cmp a))

and_true : (b : Bool) → (b && true) ≡ b
and_true true = refl
and_true false = refl

pub nothing_wanted : (v : Value) → same_value (set_of set.empty) v ≡ ((size v == 0) && not (is_map v))
unfolding finite.keys finite.empty
nothing_wanted (set_of s) = ap (λ b. b && true) (all_in_nothing s)
nothing_wanted (map_of m) = sym (and_false (size (map_of m) == 0))
  where
    and_false : (b : Bool) → (b && false) ≡ false
    and_false true = refl
    and_false false = refl

pub nothing_included : (v : Value) → same_value (set_of set.empty) v ≡ includes_all (set_of set.empty) v
unfolding finite.keys finite.empty
nothing_included (set_of s) = and_true _
nothing_included (map_of m) = refl

pub nothing_excluded : (v : Value) → not (is_map v) ≡ excludes_all (set_of set.empty) v
nothing_excluded (set_of s) = sym (none_of_nothing s)
nothing_excluded (map_of m) = refl

pub nothing_compared : (test : Ordering → Bool) (v : Value) → false ≡ compares test (set_of set.empty) v
unfolding finite.keys finite.empty
nothing_compared test (set_of s) = refl
nothing_compared test (map_of m) = refl

-- what each function says of the empty set
pub ruleset of_nothing = (nothing_included, nothing_excluded, nothing_compared)

pub ruleset equality = (eq_by_cmp-value_cmp)
