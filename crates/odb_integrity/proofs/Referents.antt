-- Sets of row ids that grow by the referents of rows.
use Rattle.std.specs.Prelude.{◌≡◌, ℕ, ◌+◌, ◌<◌, Bool, true, false, cond, not, ◌&&◌, ◌||◌, List, length, take}
use Rattle.std.specs.BTreeSet.{BTreeSet, Updates, contains}
use Rattle.std.specs.List.{list_any}
use Rattle.std.specs.Ordering.{eq_by_cmp}
use mathlib.Core.Path.{refl, sym, ap, ◌∙◌}
use mathlib.Core.Bool.{true≢false}
use Rattle.std.proofs.Common.{get_or}
use Rattle.std.proofs.lemmas.List.Folds.{list_any_more}
use Rattle.odb_integrity.specs.Settlement.{RowId, same_row}
use Rattle.odb_integrity.specs.Represented.RowId.{row_id_cmp}
use Rattle.odb_integrity.proofs.Ids.{same_either_way, same_row_equal, same_test}

not_false : (b : Bool) → true ≡ not b → b ≡ false
not_false true e = absurd (true≢false e)
not_false false e = refl

not_true : (b : Bool) → false ≡ not b → b ≡ true
not_true true e = refl
not_true false e = absurd (true≢false (sym e))

module _ (old now new : BTreeSet RowId) (id y : RowId) (rows : List RowId) (i : ℕ) (inside : i < length rows) (is : y ≡ get_or rows i y)
    (before : (x : RowId) → contains row_id_cmp now x ≡ (contains row_id_cmp old x || (not (same_row x id) && list_any (same_row x) (take i rows)))) where
  one_more : (x : RowId) → list_any (same_row x) (take (i + 1) rows) ≡ (list_any (same_row x) (take i rows) || same_row x y)
  one_more x = list_any_more (same_row x) rows i y inside ∙ ap (λ z. list_any (same_row x) (take i rows) || same_row x z) (sym is)

  -- one that isn't `id`
  pub other_added : true ≡ not (eq_by_cmp row_id_cmp y id) → Updates row_id_cmp now new y true → (x : RowId) → contains row_id_cmp new x ≡ (contains row_id_cmp old x || (not (same_row x id) && list_any (same_row x) (take (i + 1) rows)))
  other_added differs added x =
      added.0 x ∙ (λ j. cond ((same_test y x ∙ same_either_way y x) j) true (before x j))
      ∙ tests (contains row_id_cmp old x) (same_row x id) (list_any (same_row x) (take i rows)) (same_row x y) (λ t. ap (λ z. same_row z id) (same_row_equal x y t) ∙ sym (same_test y id) ∙ not_false _ differs)
      ∙ ap (λ b. contains row_id_cmp old x || (not (same_row x id) && b)) (sym (one_more x))
    where
      tests : (a s l t : Bool) → (t ≡ true → s ≡ false) → cond t true (a || (not s && l)) ≡ (a || (not s && (l || t)))
      tests true s l true h = refl
      tests true s l false h = refl
      tests false true l true h = absurd (true≢false (h refl))
      tests false false true true h = refl
      tests false false false true h = refl
      tests false true l false h = refl
      tests false false true false h = refl
      tests false false false false h = refl

  -- `id` itself
  pub itself_passed : false ≡ not (eq_by_cmp row_id_cmp y id) → new ≡ now → (x : RowId) → contains row_id_cmp new x ≡ (contains row_id_cmp old x || (not (same_row x id) && list_any (same_row x) (take (i + 1) rows)))
  itself_passed same kept x =
      ap (λ set. contains row_id_cmp set x) kept ∙ before x
      ∙ tests (contains row_id_cmp old x) (same_row x id) (list_any (same_row x) (take i rows))
      ∙ ap (λ z. contains row_id_cmp old x || (not (same_row x id) && (list_any (same_row x) (take i rows) || same_row x z))) (sym (same_row_equal y id (sym (same_test y id) ∙ not_true _ same)))
      ∙ ap (λ b. contains row_id_cmp old x || (not (same_row x id) && b)) (sym (one_more x))
    where
      tests : (a s l : Bool) → (a || (not s && l)) ≡ (a || (not s && (l || s)))
      tests true s l = refl
      tests false true l = refl
      tests false false true = refl
      tests false false false = refl
