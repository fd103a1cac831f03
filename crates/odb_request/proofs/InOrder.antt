-- Where a column is put among others by its name.
use Rattle.std.specs.Prelude.{◌≡◌, ℕ, suc, ◌+◌, Bool, true, false, not, cond, List, [], ◌∷◌, length, map, Some, unwrap_or}
use Rattle.std.specs.List.{insert, position, position_from, position_or_len}
use Rattle.std.specs.Ordering.{is_lt}
use Rattle.std.proofs.Common.{arith}
use Rattle.std.proofs.lemmas.Iterator.Adapters.{position_from-zero}
use mathlib.Core.Path.{refl, ap, ◌∙◌}
use Rattle.odb_atoms.specs.Text.{text_cmp}
use Rattle.odb_request.specs.Request.{Column}
use Rattle.odb_request.specs.Requests.{place_column}

found_from : {X : Type 0} (p : X → Bool) (i : ℕ) (xs : List X) → unwrap_or (position_from p i xs) (i + length xs) ≡ i + position_or_len p xs
found_from p i [] = omega arith
found_from p i (x ∷ xs) = by (p x) (found_from p (i + 1) xs)
  where
    by : (b : Bool) → unwrap_or (position_from p (i + 1) xs) ((i + 1) + length xs) ≡ (i + 1) + position_or_len p xs
        → unwrap_or (cond b (Some i) (position_from p (i + 1) xs)) (i + suc (length xs)) ≡ i + cond (not b) (1 + position_or_len p xs) 0
    by true e = omega arith
    by false e =
        let far : i + suc (length xs) ≡ (i + 1) + length xs = omega arith in
        let near : (i + 1) + position_or_len p xs ≡ i + (1 + position_or_len p xs) = omega arith in
        ap (unwrap_or (position_from p (i + 1) xs)) far ∙ e ∙ near

-- the first place that passes, or the end
found : {X : Type 0} (p : X → Bool) (xs : List X) → unwrap_or (position p xs) (length xs) ≡ position_or_len p xs
found p xs =
    let none : length xs ≡ 0 + length xs = omega arith in
    let same : 0 + position_or_len p xs ≡ position_or_len p xs = omega arith in
    ap (λ o. unwrap_or o (length xs)) (position_from-zero p xs) ∙ ap (unwrap_or (position_from p 0 xs)) none ∙ found_from p 0 xs ∙ same

module _ {X : Type 0} (f : X → Column) (x : X) where
  abbrev pub IsAfter : X → Bool
  IsAfter y = is_lt (text_cmp (f x).name (f y).name)

  put_at : (xs : List X) → map f (insert xs (position_or_len IsAfter xs) x) ≡ place_column (f x) (map f xs)
  put_at [] = refl
  put_at (y ∷ ys) = by (IsAfter y) (put_at ys)
    where
      by : (b : Bool) → map f (insert ys (position_or_len IsAfter ys) x) ≡ place_column (f x) (map f ys)
          → map f (insert (y ∷ ys) (cond (not b) (1 + position_or_len IsAfter ys) 0) x) ≡ cond b (f x ∷ f y ∷ map f ys) (f y ∷ place_column (f x) (map f ys))
      by true e = refl
      by false e =
          let next : 1 + position_or_len IsAfter ys ≡ suc (position_or_len IsAfter ys) = omega arith in
          ap (λ n. map f (insert (y ∷ ys) n x)) next ∙ ap (λ l. f y ∷ l) e

  pub placed : (xs : List X) → map f (insert xs (unwrap_or (position IsAfter xs) (length xs)) x) ≡ place_column (f x) (map f xs)
  placed xs = ap (λ n. map f (insert xs n x)) (found IsAfter xs) ∙ put_at xs
