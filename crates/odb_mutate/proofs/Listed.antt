-- The lists that the code makes of the entries of a value: of all, and of some of them.
use Rattle.std.specs.Prelude.{◌≡◌, Bool, true, false, ◌&&◌, length, List, [], ◌∷◌, map, filter, None}
use Rattle.std.specs.List.{list_all}
use Rattle.std.proofs.Common.{arith}
use Rattle.std.proofs.lemmas.List.{length-map}
use Rattle.std.proofs.lemmas.Option.{none-some}
use Rattle.std.proofs.lemmas.List.Folds.{list_all-map}
use mathlib.Core.Path.{sym, ap, subst, ◌∙◌}
use mathlib.Core.Bool.{true≢false}
use Rattle.odb_atoms.specs.FinMap as finite
use Rattle.odb_atoms.specs.FinSet as set
use Rattle.odb_atoms.specs.Atom.{Kind, integers, same_atom}
use Rattle.odb_atoms.specs.Atom as model
use Rattle.odb_atoms.specs.ColType.{is_a}
use Rattle.odb_atoms.specs.First.{each, ◌>>=◌}
use Rattle.odb_atoms.specs.Members.{map_fault, set_fault}
use Rattle.odb_atoms.specs.Value.{Atoms, Pairs, Value, is_map, map_of, set_of, size}
use Rattle.odb_atoms.specs.Represented.Atom.{atom_of}
use Rattle.odb_atoms.specs.Represented.Value.{pair_of}
use Rattle.odb_atoms.specs.declared.atom.Atom.{Atom}
use Rattle.odb_atoms.proofs.Lists.{both}
use Rattle.odb_chunks.specs.Represented.Chunks.{lone_of}
use Rattle.odb_mutate.specs.Mutation.{calculate_atom, calculate_each, result_of, set_of_results}
use Rattle.odb_mutate.specs.Represented.Kinds.{AreIntegers, HasOneElement, IsOf, elements_in}
use Rattle.odb_mutate.specs.Represented.Mutation.{operator_of}
use Rattle.odb_mutate.specs.declared.operator.Operator.{Operator}
use Rattle.odb_mutate.proofs.Distinct.{IsDistinct, distinct-filter, distinct-rising, map_fault-none, set_fault-none}
use Rattle.odb_mutate.proofs.Each.{filter-map}
use Rattle.odb_mutate.proofs.Results.{calculated}

-- ---- sets

length-elements : (v : Value) → is_map v ≡ false → size v ≡ length (elements_in v)
unfolding finite.keys finite.len
length-elements (set_of s) e = sym (length-map s.entries _)
length-elements (map_of m) e = absurd (true≢false e)

one_listed : (xs : List Atom) (v : Value) → HasOneElement v → map atom_of xs ≡ elements_in v → length xs ≡ 1
one_listed xs v h is = sym (length-map xs atom_of) ∙ ap length is ∙ sym (length-elements v h.0) ∙ h.1

-- of one element, it isn't so that none lies alone
pub one_alone : (xs : List Atom) (v : Value) → HasOneElement v → map atom_of xs ≡ elements_in v → None ≡ lone_of xs → ⊥
one_alone [] v h is none = omega (arith, one_listed [] v h is)
one_alone (x ∷ []) v h is none = none-some x none
one_alone (x ∷ y ∷ ys) v h is none = omega (arith, one_listed (x ∷ y ∷ ys) v h is)

pub kinds-of : (k l : Kind) (v : Value) → is_map v ≡ false → IsOf k l v → list_all (is_a k) (elements_in v) ≡ true
kinds-of k l (set_of s) e of = of
kinds-of k l (map_of m) e of = absurd (true≢false e)

pub are_integers : (xs : List Atom) (v : Value) → map atom_of xs ≡ elements_in v → AreIntegers v → list_all (λ a. is_a integers (atom_of a)) xs ≡ true
are_integers xs v is h = sym (list_all-map (is_a integers) atom_of xs) ∙ ap (list_all (is_a integers)) is ∙ kinds-of integers integers v h.0 h.1

pub lone_integer : (v : Value) (y : Atom) → elements_in v ≡ atom_of y ∷ [] → AreIntegers v → is_a integers (atom_of y) ≡ true
lone_integer v y is h = (both (is_a integers (atom_of y)) true (sym (ap (list_all (is_a integers)) is) ∙ kinds-of integers integers v h.0 h.1)).0

pub calculated_set : (operator : Operator) (xs : List Atom) (v w : Value) (y : Atom) → is_map v ≡ false → is_map w ≡ false → map atom_of xs ≡ elements_in v → elements_in w ≡ atom_of y ∷ [] → ◌>>=◌ (each (λ x. calculate_atom (operator_of operator) x (atom_of y)) (map atom_of xs)) set_of_results ≡ result_of (operator_of operator) v w
calculated_set operator xs (set_of a) (set_of b) y e f is one =
    ap (λ zs. ◌>>=◌ (each (λ x. calculate_atom (operator_of operator) x (atom_of y)) zs) set_of_results) is
    ∙ ap (calculate_each (operator_of operator) a) (sym one)
    ∙ sym (calculated operator a b)
calculated_set operator xs (set_of a) (map_of n) y e f is one = absurd (true≢false f)
calculated_set operator xs (map_of m) w y e f is one = absurd (true≢false e)

-- some elements of a set
pub distinct-kept : (p : model.Atom → Bool) (s : Atoms) → IsDistinct (filter p (set.items s))
unfolding finite.keys
distinct-kept p s = subst IsDistinct (filter-map (λ e. e.0) p s.entries) (distinct-filter (λ e. e.0) (λ e. p e.0) s.entries (distinct-rising s.entries s.sorted))

-- those of one kind make a set
pub some_elements : (k : Kind) (p : model.Atom → Bool) (s : Atoms) → list_all (is_a k) (filter p (set.items s)) ≡ true → set_fault (filter p (set.items s)) ≡ None
some_elements k p s all = set_fault-none k _ all (distinct-kept p s)

pub kept_elements : (s : List Atom) (a : Atoms) (p : model.Atom → Bool) (once : List Atom) → map atom_of s ≡ set.items a → map atom_of once ≡ map atom_of (filter (λ x. p (atom_of x)) s) → map atom_of once ≡ filter p (set.items a)
kept_elements s a p once in_s one = one ∙ filter-map atom_of p s ∙ ap (filter p) in_s

-- ---- maps

-- some pairs of a map, of one kind each, make one
pub some_pairs : (k l : Kind) (p : model.Atom × model.Atom → Bool) (m : Pairs) → list_all (λ e. is_a k e.0 && is_a l e.1) (filter p m.entries) ≡ true → map_fault (filter p m.entries) ≡ None
some_pairs k l p m all = map_fault-none k l _ all (distinct-filter (λ e. e.0) p m.entries (distinct-rising m.entries m.sorted))

pub kept_pairs : (s : List (Atom × Atom)) (m : Pairs) (p : model.Atom × model.Atom → Bool) (once : List (Atom × Atom)) → map pair_of s ≡ m.entries → map pair_of once ≡ map pair_of (filter (λ x. p (pair_of x)) s) → map pair_of once ≡ filter p m.entries
kept_pairs s m p once in_s one = one ∙ filter-map pair_of p s ∙ ap (filter p) in_s
