-- What a value has and what it lacks of another, by which the two together differ from it.
use Rattle.std.specs.Prelude.{◌≡◌, Bool, true, false, cond, not, ◌&&◌, ◌||◌, List, map, filter, is_some, Option, Some, None, Result, Ok}
use mathlib.Core.Path.{refl, sym, ap, ◌∙◌}
use mathlib.Core.Bool.{xor}
use Rattle.odb_atoms.specs.FinMap as finite
use Rattle.odb_atoms.specs.FinSet as set
use Rattle.odb_atoms.specs.Atom.{Atom}
use Rattle.odb_atoms.specs.ColType.{is_a}
use Rattle.odb_atoms.specs.Difference.{changed, changed_pair, changed_pairs}
use Rattle.odb_atoms.specs.Error.{Error}
use Rattle.odb_atoms.specs.Members.{has, map_fault, set_fault}
use Rattle.odb_atoms.specs.Value.{Atoms, Pairs, Value, atoms, map_of, set_of}
use Rattle.odb_atoms.specs.Represented.Atom.{atom_of}
use Rattle.odb_atoms.specs.Represented.AtomOrder.{atom_cmp_total}
use Rattle.odb_atoms.specs.Represented.Value.{Lists, pair_of}
use Rattle.odb_atoms.specs.declared.atom.Atom as code
use Rattle.odb_atoms.specs.declared.value.Entries.TheVariants as entries
use Rattle.odb_atoms.proofs.Atoms.{atom_cmp-IsAntisymmetric}
use Rattle.odb_atoms.proofs.FinMaps.{contains_key-keys, get-combine, get-entries, same_map}
use Rattle.odb_atoms.proofs.FinSets.{contains-from_list, contains-symmetric_difference, contains-union, same_set}
use Rattle.odb_mutate.specs.Mutation.{first_of, insert, insert_pairs, result_of}
use Rattle.odb_mutate.specs.Represented.Kinds.{HasKinds}
use Rattle.odb_mutate.proofs.Each.{all-filter}
use Rattle.odb_mutate.proofs.Listed.{kept_elements, kept_pairs, some_elements, some_pairs}
use Rattle.odb_mutate.proofs.Maps.{find-keys, get-from_entries}
use Rattle.odb_mutate.proofs.Sets.{any-filter}

-- the elements of t that s lacks, beside those of s
lacking-elements : (s t : Atoms) → set.symmetric_difference s (atoms (filter (λ a. not (set.contains s a)) (set.items t))) ≡ set.union s t
unfolding xor
lacking-elements s t =
    let p : Atom → Bool = λ a. not (set.contains s a) in
    same_set atom_cmp_total atom_cmp-IsAntisymmetric _ (set.union s t) (λ q.
    contains-symmetric_difference atom_cmp_total atom_cmp-IsAntisymmetric s (atoms (filter p (set.items t))) q
    ∙ ap (xor (set.contains s q)) (contains-from_list atom_cmp_total (filter p (set.items t)) q ∙ any-filter p q (set.items t) ∙ ap (λ b. b && p q) (sym (contains_key-keys t q)))
    ∙ either (set.contains s q) (set.contains t q)
    ∙ sym (contains-union atom_cmp_total s t q))
  where
    either : (a b : Bool) → xor a (b && not a) ≡ (a || b)
    either true true = refl
    either true false = refl
    either false true = refl
    either false false = refl

-- the pairs of n whose key m lacks, beside those of m
lacking-pairs : (m n : Pairs) → changed_pairs m (finite.from_entries (filter (λ e. not (finite.contains_key m e.0)) n.entries)) ≡ insert_pairs m n
lacking-pairs m n =
    let new = filter (λ (e : Atom × Atom). not (finite.contains_key m e.0)) n.entries in
    same_map atom_cmp_total atom_cmp-IsAntisymmetric _ (insert_pairs m n) (λ q.
    get-combine atom_cmp_total atom_cmp-IsAntisymmetric changed_pair refl m (finite.from_entries new) q
    ∙ ap (changed_pair (finite.get m q)) (get-from_entries new q ∙ find-keys (λ k. not (finite.contains_key m k)) q n.entries ∙ ap (λ o. cond (not (is_some (finite.get m q))) o None) (sym (get-entries n q)))
    ∙ by (finite.get m q) (finite.get n q)
    ∙ sym (get-combine atom_cmp_total atom_cmp-IsAntisymmetric first_of refl m n q))
  where
    by : (x y : Option Atom) → changed_pair x (cond (not (is_some x)) y None) ≡ first_of x y
    by None None = refl
    by None (Some b) = refl
    by (Some a) y = refl

pub elements_fault : (s t : List (code.Atom)) (v w : Value) (once : List (code.Atom)) → Lists (entries.Set s) v → Lists (entries.Set t) w → HasKinds w → map atom_of once ≡ map atom_of (filter (λ x. not (has v (atom_of x))) t) → set_fault (map atom_of once) ≡ None
elements_fault s t (set_of a) (set_of b) once in_s in_t of one =
    let p : Atom → Bool = λ x. not (set.contains a x) in
    ap set_fault (kept_elements t b p once in_t one) ∙ some_elements of.0 p b (all-filter (is_a of.0) p (set.items b) of.2)
elements_fault s t (set_of a) (map_of n) once in_s in_t of one = absurd in_t
elements_fault s t (map_of m) w once in_s in_t of one = absurd in_s

pub pairs_fault : (t : List (code.Atom × code.Atom)) (v w : Value) (once : List (code.Atom × code.Atom)) → Lists (entries.Map t) w → HasKinds w → map pair_of once ≡ map pair_of (filter (λ p. not (has v (atom_of p.0))) t) → map_fault (map pair_of once) ≡ None
pairs_fault t v (map_of n) once in_t of one =
    let p : Atom × Atom → Bool = λ e. not (has v e.0) in
    ap map_fault (kept_pairs t n p once in_t one) ∙ some_pairs of.0 of.1 p n (all-filter (λ e. is_a of.0 e.0 && is_a of.1 e.1) p n.entries of.2)
pairs_fault t v (set_of b) once in_t of one = absurd in_t

pub elements_inserted : (s t : List (code.Atom)) (v w : Value) (once : List (code.Atom)) → Lists (entries.Set s) v → Lists (entries.Set t) w → map atom_of once ≡ map atom_of (filter (λ x. not (has v (atom_of x))) t) → ◌≡◌ {A = Result Value Error} (Ok (changed v (set_of (atoms (map atom_of once))))) (result_of insert v w)
elements_inserted s t (set_of a) (set_of b) once in_s in_t one =
    ap (λ zs. let r : Result Value Error = Ok (set_of (set.symmetric_difference a (atoms zs))) in r) (kept_elements t b (λ x. not (set.contains a x)) once in_t one) ∙ ap (λ x. Ok (set_of x)) (lacking-elements a b)
elements_inserted s t (set_of a) (map_of n) once in_s in_t one = absurd in_t
elements_inserted s t (map_of m) w once in_s in_t one = absurd in_s

pub pairs_inserted : (s t : List (code.Atom × code.Atom)) (v w : Value) (once : List (code.Atom × code.Atom)) → Lists (entries.Map s) v → Lists (entries.Map t) w → map pair_of once ≡ map pair_of (filter (λ p. not (has v (atom_of p.0))) t) → ◌≡◌ {A = Result Value Error} (Ok (changed v (map_of (finite.from_entries (map pair_of once))))) (result_of insert v w)
pairs_inserted s t (map_of m) (map_of n) once in_s in_t one =
    ap (λ es. let r : Result Value Error = Ok (map_of (changed_pairs m (finite.from_entries es))) in r) (kept_pairs t n (λ e. not (finite.contains_key m e.0)) once in_t one) ∙ ap (λ x. Ok (map_of x)) (lacking-pairs m n)
pairs_inserted s t (map_of m) (set_of b) once in_s in_t one = absurd in_t
pairs_inserted s t (set_of a) w once in_s in_t one = absurd in_s
