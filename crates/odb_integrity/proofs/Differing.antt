-- What one difference of two values tells of both: the rows to which a column lost its references, and those to which it gained them.
use Rattle.std.specs.Prelude.{◌≡◌, Bool, true, false, cond, not, ◌&&◌, List, [], ◌++◌}
use mathlib.Core.Path.{refl, sym, ap, ◌∙◌}
use mathlib.Core.Bool.{xor, true≢false}
use Rattle.std.proofs.lemmas.List.{append-nil}
use Rattle.odb_atoms.proofs.Atoms.{atom_cmp-IsAntisymmetric}
use Rattle.odb_atoms.proofs.FinSets.{contains-symmetric_difference, same_set}
use Rattle.odb_atoms.proofs.Lists.{both}
use Rattle.odb_atoms.proofs.Values.{same_value-equal}
use Rattle.odb_atoms.specs.ColType.{ColType, is_single}
use Rattle.odb_atoms.specs.Difference.{difference}
use Rattle.odb_atoms.specs.FinSet as set
use Rattle.odb_atoms.specs.Represented.AtomOrder.{atom_cmp_total}
use Rattle.odb_atoms.specs.Value.{Atoms, Value, is_map, map_of, same_value, set_of}
use Rattle.odb_schema.specs.Schema.{Schema}
use Rattle.odb_integrity.specs.Gained.{gained_by_value, has_strong, leads_back, strong_of_change}
use Rattle.odb_integrity.specs.Settlement.{RowId}
use Rattle.odb_integrity.proofs.Gains.{none_gained}

not_so : (b : Bool) → not b ≡ true → b ≡ false
not_so true e = sym e
not_so false e = refl

either_way : (a b : Bool) → xor a b ≡ xor b a
unfolding xor
either_way true true = refl
either_way true false = refl
either_way false true = refl
either_way false false = refl

-- ---- sets

same_difference : (u v : Atoms) → set.symmetric_difference u v ≡ set.symmetric_difference v u
same_difference u v =
    same_set atom_cmp_total atom_cmp-IsAntisymmetric (set.symmetric_difference u v) (set.symmetric_difference v u) (λ q.
    contains-symmetric_difference atom_cmp_total atom_cmp-IsAntisymmetric u v q
    ∙ either_way (set.contains u q) (set.contains v q)
    ∙ sym (contains-symmetric_difference atom_cmp_total atom_cmp-IsAntisymmetric v u q))

pub back : (t : ColType) (before now : Value) → leads_back t before now ≡ true → difference before now t ≡ difference now before t
back t (set_of u) (set_of v) e =
    let many : is_single t ≡ false = not_so (is_single t) (both (not (is_single t)) true (both (not (is_single t) && true) true e).0).0 in
    (λ i. cond (many i) (set_of v) (set_of (set.symmetric_difference u v)))
    ∙ ap set_of (same_difference u v)
    ∙ sym (λ i. cond (many i) (set_of u) (set_of (set.symmetric_difference v u)))
back t (set_of u) (map_of n) e = absurd (true≢false (sym (both (not (is_single t) && true) false e).1))
back t (map_of m) now e = absurd (true≢false (sym (both (not (is_single t)) false (both (not (is_single t) && false) (not (is_map now)) e).0).1))

-- ---- values

pub nothing_more : {A : Type 0} (xs ys : List A) → [] ≡ ys → xs ≡ xs ++ ys
nothing_more xs ys e = sym (append-nil xs) ∙ ap (λ zs. xs ++ zs) e

module _ (s : Schema) (t : ColType) (before now : Value) where
  pub none_appended : (rows : List RowId) → has_strong t ≡ false → rows ≡ rows ++ gained_by_value s t before now
  none_appended rows e = nothing_more rows (gained_by_value s t before now) (none_gained s t before now e)

  -- values that are the same
  pub same_appended : (rows : List RowId) → same_value before now ≡ true → rows ≡ rows ++ gained_by_value s t before now
  same_appended rows e = nothing_more rows (gained_by_value s t before now) (sym (ap (λ b. cond b [] (strong_of_change s t (difference before now t) now)) e))

  pub same_back : same_value before now ≡ true → same_value now before ≡ true
  same_back e = let is : before ≡ now = same_value-equal before now e in ap (λ v. same_value now v) is ∙ sym (ap (λ v. same_value v now) is) ∙ e

  -- what the difference tells of the value before
  pub appended_back : (old new : List RowId) (d : Value) → d ≡ difference before now t → leads_back t before now ≡ true → new ≡ old ++ strong_of_change s t d before → new ≡ old ++ strong_of_change s t (difference now before t) before
  appended_back old new d is e more = more ∙ ap (λ v. old ++ strong_of_change s t v before) (is ∙ back t before now e)
