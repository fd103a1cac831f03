-- What a difference says: it leads from the old value to the new one. Examples.
use Rattle.std.specs.Prelude.{◌≡◌, ℤ, pos, Bool, true, false, cond, List, [], ◌∷◌, codes, map as map_list, Option, Some, None}
use mathlib.Core.Path.{refl, sym, ap, ◌∙◌}
use mathlib.Core.Bool.{xor, true≢false}
use Rattle.std.specs.Ordering.{is_eq}
use Rattle.std.specs.Cmp.{tied_itself}
use Rattle.odb_atoms.specs.FinSet as set
use Rattle.odb_atoms.specs.FinMap as map
use Rattle.odb_atoms.proofs.Atoms.{atom_cmp-IsAntisymmetric}
use Rattle.odb_atoms.specs.Represented.AtomOrder.{atom_cmp_total}
use Rattle.odb_atoms.proofs.FinMaps.{get-combine, same_key, same_map}
use Rattle.odb_atoms.proofs.FinSets.{contains-symmetric_difference, same_set}
use Rattle.odb_atoms.specs.Atom.{Atom, integer, same_atom, text}
use Rattle.odb_atoms.specs.ColType.{ColType, is_single}
use Rattle.odb_atoms.specs.Difference.{apply, changed, changed_pair, changed_pairs, difference}
use Rattle.odb_atoms.specs.Value.{Atoms, Pairs, Value, atoms, is_map, map_of, set_of}
use Rattle.odb_atoms.proofs.Examples.{values_compute}

xor_twice : (a b : Bool) → xor a (xor a b) ≡ b
unfolding xor
xor_twice true true = refl
xor_twice true false = refl
xor_twice false true = refl
xor_twice false false = refl

-- an element is in a difference where it is in one of the two sets alone
sets_again : (s t : Atoms) → set.symmetric_difference s (set.symmetric_difference s t) ≡ t
sets_again s t =
    let has = contains-symmetric_difference atom_cmp_total atom_cmp-IsAntisymmetric in
    same_set atom_cmp_total atom_cmp-IsAntisymmetric _ t (λ q. has s (set.symmetric_difference s t) q ∙ ap (xor (set.contains s q)) (has s t q) ∙ xor_twice (set.contains s q) (set.contains t q))

changed_same : (a : Atom) → changed_pair (Some a) (Some a) ≡ None
changed_same a = ap (λ r. cond (is_eq r) None (Some a)) (tied_itself atom_cmp_total a)

changed_twice : (x y : Option Atom) → changed_pair x (changed_pair x y) ≡ y
changed_twice None y = refl
changed_twice (Some a) None = changed_same a
changed_twice (Some a) (Some b) = by (same_atom a b) refl
  where
    by : (e : Bool) → same_atom a b ≡ e → changed_pair (Some a) (cond e None (Some b)) ≡ Some b
    by true p = ap Some (same_key atom_cmp-IsAntisymmetric a b p)
    by false p = ap (λ e. cond e None (Some b)) p

maps_again : (m n : Pairs) → changed_pairs m (changed_pairs m n) ≡ n
maps_again m n =
    let has = get-combine atom_cmp_total atom_cmp-IsAntisymmetric changed_pair refl in
    same_map atom_cmp_total atom_cmp-IsAntisymmetric _ n (λ q. has m (changed_pairs m n) q ∙ ap (changed_pair (map.get m q)) (has m n q) ∙ changed_twice (map.get m q) (map.get n q))

changed_again : (old new : Value) → is_map old ≡ is_map new → changed old (changed old new) ≡ new
changed_again (set_of s) (set_of t) e = ap set_of (sets_again s t)
changed_again (set_of s) (map_of n) e = absurd (true≢false (sym e))
changed_again (map_of m) (set_of t) e = absurd (true≢false e)
changed_again (map_of m) (map_of n) e = ap map_of (maps_again m n)

-- of two sets, or of two maps, the difference applied to the old one is the new one
pub apply-difference : (old new : Value) (t : ColType) → is_map old ≡ is_map new → apply old (difference old new t) t ≡ new
apply-difference old new t e =
    elim (is_single t) as (λ b. cond b (cond b new (changed old new)) (changed old (cond b new (changed old new))) ≡ new) [ true ↦ refl | false ↦ changed_again old new e ]

-- ---- examples

abbrev numbers : List ℤ → Value
numbers xs = set_of (atoms (map_list integer xs))

pub sets_differ_by_what_one_has : changed (numbers (pos 1 ∷ pos 2 ∷ pos 3 ∷ [])) (numbers (pos 2 ∷ pos 3 ∷ pos 4 ∷ [])) ≡ numbers (pos 1 ∷ pos 4 ∷ [])
unfolding values_compute
sets_differ_by_what_one_has = refl

abbrev ab : Pairs
ab = map.from_entries ((text (codes "a"), integer (pos 1)) ∷ (text (codes "b"), integer (pos 2)) ∷ [])

abbrev bc : Pairs
bc = map.from_entries ((text (codes "b"), integer (pos 3)) ∷ (text (codes "c"), integer (pos 4)) ∷ [])

abbrev abc : Pairs
abc = map.from_entries ((text (codes "a"), integer (pos 1)) ∷ (text (codes "b"), integer (pos 3)) ∷ (text (codes "c"), integer (pos 4)) ∷ [])

pub maps_differ_by_pairs : changed (map_of ab) (map_of bc) ≡ map_of abc
unfolding values_compute
maps_differ_by_pairs = refl
