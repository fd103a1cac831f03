-- Rounds of garbage collection: rows without support go out, and then those wait to which they referred.
use Rattle.std.specs.Prelude.{◌≡◌, ◌⊎◌, ℕ, ◌<◌, ◌≤◌, Bool, true, false, cond, not, ◌&&◌, List, [], ◌∷◌, filter, length, is_some, unwrap_or, Option, Some, None, option_and_then, option_map}
use Rattle.std.specs.List.{list_any}
use mathlib.Core.Path.{refl, sym, ap, ◌∙◌}
use mathlib.Core.Logic.{inl, inr}
use mathlib.Core.Bool.{true≢false}
use Rattle.std.proofs.Common.{arith, get_or}
use Rattle.std.proofs.lemmas.List.Folds.{list_any_at}
use Rattle.odb_atoms.proofs.Lists.{Member, both, gives_any}
use Rattle.odb_atoms.specs.Row.{Row}
use Rattle.odb_integrity.specs.Settlement.{RowId, has_support, is_kept, is_referred, is_there, kept, refers, row_ids, row_of, same_row, strong_of_row}
use Rattle.odb_integrity.specs.Steps.{without_rows}
use Rattle.odb_integrity.specs.Touched.{SupportedBut, is_lost}
use Rattle.odb_integrity.proofs.Databases.{any-row_ids, length-each_row, row_of-each_row, same_db, there_inside}
use Rattle.odb_integrity.proofs.Held.{supported_by, supported_kept, supported_root, supporter_in}
use Rattle.odb_integrity.proofs.Ids.{any-filter, member, own_row}
use Rattle.odb_integrity.proofs.Kept.{kept_is_largest, kept_is_supported}
use Rattle.odb_integrity.proofs.Settles.{carried}
use Rattle.odb_schema.specs.Schema.{Schema, is_root_at}
use Rattle.odb_tables.specs.Database.{Db}

-- ---- how many pass a test

fewer_upto : {A : Type 0} (p q : A → Bool) → ((x : A) → q x ≡ true → p x ≡ true) → (xs : List A) → length (filter q xs) ≤ length (filter p xs)
fewer_upto p q h [] = omega arith
fewer_upto {A} p q h (x ∷ xs) = by (p x) (q x) (h x) (fewer_upto p q h xs)
  where
    by : (a b : Bool) → (b ≡ true → a ≡ true) → length (filter q xs) ≤ length (filter p xs) → length (cond b (x ∷ filter q xs) (filter q xs)) ≤ length (cond a (x ∷ filter p xs) (filter p xs))
    by true true k rest = omega (arith, rest)
    by true false k rest = omega (arith, rest)
    by false true k rest = absurd (true≢false (sym (k refl)))
    by false false k rest = rest

-- one that passed fails
pub fewer_pass : {A : Type 0} (p q : A → Bool) → ((x : A) → q x ≡ true → p x ≡ true) → (xs : List A) (y : A) → Member y xs → p y ≡ true → q y ≡ false → length (filter q xs) < length (filter p xs)
fewer_pass p q h [] y m e f = absurd m
fewer_pass {A} p q h (x ∷ xs) y (inl is) e f = by (p x) (q x) (sym (ap p is) ∙ e) (sym (ap q is) ∙ f) (fewer_upto p q h xs)
  where
    by : (a b : Bool) → a ≡ true → b ≡ false → length (filter q xs) ≤ length (filter p xs) → length (cond b (x ∷ filter q xs) (filter q xs)) < length (cond a (x ∷ filter p xs) (filter p xs))
    by true false e f rest = omega (arith, rest)
    by true true e f rest = absurd (true≢false f)
    by false b e f rest = absurd (true≢false (sym e))
fewer_pass {A} p q h (x ∷ xs) y (inr m) e f = by (p x) (q x) (h x) (fewer_pass p q h xs y m e f)
  where
    by : (a b : Bool) → (b ≡ true → a ≡ true) → length (filter q xs) < length (filter p xs) → length (cond b (x ∷ filter q xs) (filter q xs)) < length (cond a (x ∷ filter p xs) (filter p xs))
    by true true k rest = omega (arith, rest)
    by true false k rest = omega (arith, rest)
    by false true k rest = absurd (true≢false (sym (k refl)))
    by false false k rest = rest

-- ---- rounds

-- the database after some rounds, in which only rows that wait may lack support
pub record IsRound (s : Schema) (first now : Db) (waiting : List RowId) : Type 0 where
  pub keeps : kept s now ≡ kept s first
  pub supported : SupportedBut s now waiting
  pub within : (x : RowId) → is_there now x ≡ true → is_there first x ≡ true

module _ (s : Schema) (first now : Db) (waiting lost : List RowId) (round : IsRound s first now waiting) (is : lost ≡ filter (is_lost s now) waiting) where
  lost_is : (x : RowId) → list_any (same_row x) lost ≡ (list_any (same_row x) waiting && is_lost s now x)
  lost_is x = ap (list_any (same_row x)) is ∙ any-filter (is_lost s now) x waiting

  without_support : (x : RowId) → list_any (same_row x) lost ≡ true → is_lost s now x ≡ true
  without_support x e = (both (list_any (same_row x) waiting) (is_lost s now x) (sym (lost_is x) ∙ e)).1

  -- a row that is there and isn't lost has support
  has_it : (x : RowId) → is_there now x ≡ true → list_any (same_row x) lost ≡ false → has_support s now (row_ids now) x ≡ true
  has_it x there left = by (list_any (same_row x) waiting) refl
    where
      tests : (w t h : Bool) → w ≡ true → t ≡ true → (w && (t && not h)) ≡ false → h ≡ true
      tests true true true e f g = refl
      tests true true false e f g = absurd (true≢false g)
      tests true false h e f g = absurd (true≢false (sym f))
      tests false t h e f g = absurd (true≢false (sym e))

      by : (b : Bool) → list_any (same_row x) waiting ≡ b → has_support s now (row_ids now) x ≡ true
      by true listed = tests (list_any (same_row x) waiting) (is_there now x) (has_support s now (row_ids now) x) listed there (sym (lost_is x) ∙ left)
      by false absent = round.supported x there absent

  -- nothing is lost any more
  pub last_round : lost ≡ [] → now ≡ kept s first
  last_round e = supported_kept s now (λ x there. has_it x there (ap (list_any (same_row x)) e)) ∙ round.keeps

  kept_left : (x : RowId) → is_kept s now x ≡ true → list_any (same_row x) lost ≡ false
  kept_left x k = by (list_any (same_row x) lost) refl
    where
      supported : has_support s now (row_ids now) x ≡ true
      supported = elim (kept_is_supported s now x k).1 as (λ _. has_support s now (row_ids now) x ≡ true) [
        | inl root ↦ supported_root s now (row_ids now) x root
        | inr v ↦ supported_by s now x v.0 v.2 v.3
      ]

      by : (b : Bool) → list_any (same_row x) lost ≡ b → b ≡ false
      by true e = sym (both (is_there now x) (not (has_support s now (row_ids now) x)) (without_support x e)).1 ∙ ap not supported
      by false e = refl

  module _ (new : Db) (taken : new ≡ without_rows lost now) where
    row_new : (x : RowId) → row_of new x ≡ option_and_then (λ r. cond (list_any (same_row x) lost) None (Some r)) (row_of now x)
    row_new x = ap (λ d. row_of d x) taken ∙ row_of-each_row (λ x r. cond (list_any (same_row x) lost) None (Some r)) now x

    stays : (x : RowId) → list_any (same_row x) lost ≡ false → row_of new x ≡ row_of now x
    stays x e = row_new x ∙ ap (λ b. option_and_then (λ r. cond b None (Some r)) (row_of now x)) e ∙ by (row_of now x)
      where
        by : (o : Option Row) → option_and_then (λ r. Some r) o ≡ o
        by None = refl
        by (Some r) = refl

    gone : (x : RowId) → list_any (same_row x) lost ≡ true → is_there new x ≡ false
    gone x e = ap is_some (row_new x ∙ ap (λ b. option_and_then (λ r. cond b None (Some r)) (row_of now x)) e) ∙ by (row_of now x)
      where
        by : (o : Option Row) → is_some (option_and_then (λ (r : Row). let n : Option Row = None in n) o) ≡ false
        by None = refl
        by (Some r) = refl

    left : (x : RowId) → is_there new x ≡ true → list_any (same_row x) lost ≡ false
    left x there = by (list_any (same_row x) lost) refl
      where
        by : (b : Bool) → list_any (same_row x) lost ≡ b → b ≡ false
        by true e = sym there ∙ gone x e
        by false e = refl

    there_before : (x : RowId) → is_there new x ≡ true → is_there now x ≡ true
    there_before x there = ap is_some (sym (stays x (left x there))) ∙ there

    refer_alike : (y x : RowId) → list_any (same_row y) lost ≡ false → refers s new y x ≡ refers s now y x
    refer_alike y x e = ap (λ o. unwrap_or (option_map (λ r. list_any (same_row x) (strong_of_row s y r)) o) false) (stays y e)

    kept_new : (x : RowId) → is_kept s now x ≡ true → is_kept s new x ≡ true
    kept_new = kept_is_largest s new (is_kept s now) (carried s now new (is_kept s now)
        (λ x k. ap is_some (stays x (kept_left x k)) ∙ sym (any-row_ids now x) ∙ (kept_is_supported s now x k).0)
        (λ y x k e. refer_alike y x (kept_left y k) ∙ e) (kept_is_supported s now))

    kept_there : (x : RowId) → is_kept s new x ≡ true → is_there new x ≡ true
    kept_there x k = sym (any-row_ids new x) ∙ (kept_is_supported s new x k).0

    kept_old : (x : RowId) → is_kept s new x ≡ true → is_kept s now x ≡ true
    kept_old = kept_is_largest s now (is_kept s new) (carried s new now (is_kept s new)
        (λ x k. there_before x (kept_there x k))
        (λ y x k e. sym (refer_alike y x (left y (kept_there y k))) ∙ e) (kept_is_supported s new))

    keeps : kept s new ≡ kept s now
    keeps = same_db (kept s new) (kept s now) (length-each_row (λ x r. cond (is_kept s new x) (Some r) None) new ∙ ap length taken ∙ length-each_row (λ x r. cond (list_any (same_row x) lost) None (Some r)) now ∙ sym (length-each_row (λ x r. cond (is_kept s now x) (Some r) None) now))
        (λ x. row_of-each_row (λ x r. cond (is_kept s new x) (Some r) None) new x ∙ by x (is_kept s new x) (is_kept s now x) refl refl ∙ sym (row_of-each_row (λ x r. cond (is_kept s now x) (Some r) None) now x))
      where
        none : (o : Option Row) → option_and_then (λ (r : Row). let n : Option Row = None in n) o ≡ None
        none None = refl
        none (Some r) = refl

        by : (x : RowId) (b c : Bool) → is_kept s new x ≡ b → is_kept s now x ≡ c → option_and_then (λ r. cond b (Some r) None) (row_of new x) ≡ option_and_then (λ r. cond c (Some r) None) (row_of now x)
        by x true true e f = ap (option_and_then (λ r. Some r)) (stays x (kept_left x f))
        by x true false e f = absurd (true≢false (sym (kept_old x e) ∙ f))
        by x false true e f = absurd (true≢false (sym (kept_new x f) ∙ e))
        by x false false e f = none (row_of new x) ∙ sym (none (row_of now x))

    module _ (next : List RowId) (referents : (x : RowId) → list_any (same_row x) next ≡ is_referred s now lost x) where
      supported_new : SupportedBut s new next
      supported_new x there absent = by (supporter_in s now (row_ids now) x (has_it x (there_before x there) (left x there)))
        where
          stands : (y : RowId) → same_row x y ≡ false → refers s now y x ≡ true → (b : Bool) → list_any (same_row y) lost ≡ b → b ≡ false
          stands y apart e true listed = sym (gives_any (λ y. not (same_row x y) && refers s now y x) lost y (member y lost listed) (λ i. not (apart i) && e i)) ∙ sym (referents x) ∙ absent
          stands y apart e false listed = refl

          by : (is_root_at s x.0 ≡ true) ⊎ ((y : RowId) × (list_any (same_row y) (row_ids now) ≡ true) × (same_row x y ≡ false) × (refers s now y x ≡ true)) → has_support s new (row_ids new) x ≡ true
          by (inl root) = supported_root s new (row_ids new) x root
          by (inr v) = supported_by s new x v.0 v.2 (refer_alike v.0 x (stands v.0 v.2 v.3 (list_any (same_row v.0) lost) refl) ∙ v.3)

      pub next_round : IsRound s first new next
      next_round = record {
        keeps = keeps ∙ round.keeps;
        supported = supported_new;
        within = λ x there. round.within x (there_before x there);
      }

    -- fewer of the first rows are there
    pub fewer_there : (y : RowId) → Member y lost → length (filter (is_there new) (row_ids first)) < length (filter (is_there now) (row_ids first))
    fewer_there y m =
        let listed : list_any (same_row y) lost ≡ true = gives_any (same_row y) lost y m (own_row y) in
        let there : is_there now y ≡ true = (both (is_there now y) (not (has_support s now (row_ids now) y)) (without_support y listed)).0 in
        fewer_pass (is_there now) (is_there new) there_before (row_ids first) y (member y (row_ids first) (any-row_ids first y ∙ round.within y there)) there (gone y listed)

  -- what is lost is in one of the tables
  pub lost_inside : (k : ℕ) (d : RowId) → k < length lost → (get_or lost k d).0 < length now
  lost_inside k d low =
      let x = get_or lost k d in
      there_inside now x (both (is_there now x) (not (has_support s now (row_ids now) x)) (without_support x (list_any_at (same_row x) lost k d low (own_row x)))).0

pub some_member : {A : Type 0} (xs : List A) → 0 < length xs → (x : A) × Member x xs
some_member [] low = absurd (omega (arith, low))
some_member (x ∷ xs) low = (x, inl refl)
