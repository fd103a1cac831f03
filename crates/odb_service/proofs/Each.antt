-- What holds of each element of a list, and of the parts that a list is made of.
use Rattle.std.proofs.Common.{◌≡◌, Bool, true, false, cond, List, [], ◌∷◌, ◌++◌, Option, Some, None, is_some, refl, ◌∙◌, ap, true≢false}
use Rattle.std.specs.Prelude.{option_map, filter}
use Rattle.odb_service.proofs.Splits.{Split}
use Rattle.odb_service.specs.World.{split_first}

abbrev pub Each : {A : Type 0} → (A → Type 0) → List A → Type 0
Each P [] = Unit {0}
Each P (x ∷ xs) = P x × Each P xs

pub each_append : {A : Type 0} (P : A → Type 0) (xs ys : List A) → Each P xs → Each P ys → Each P (xs ++ ys)
each_append P [] ys h k = k
each_append P (x ∷ xs) ys h k = (h.0, each_append P xs ys h.1 k)

pub each_filter : {A : Type 0} (P : A → Type 0) (p : A → Bool) (xs : List A) → Each P xs → Each P (filter p xs)
each_filter P p [] k = tt
each_filter P p (x ∷ xs) k = elim (p x) as (λ b. Each P (cond b (x ∷ filter p xs) (filter p xs))) [ true ↦ (k.0, each_filter P p xs k.1) | false ↦ each_filter P p xs k.1 ]

pub each_before : {A : Type 0} (P : A → Type 0) (xs ys : List A) → Each P (xs ++ ys) → Each P xs
each_before P [] ys k = tt
each_before P (x ∷ xs) ys k = (k.0, each_before P xs ys k.1)

pub each_after : {A : Type 0} (P : A → Type 0) (xs ys : List A) → Each P (xs ++ ys) → Each P ys
each_after P [] ys k = k
each_after P (x ∷ xs) ys k = each_after P xs ys k.1

-- ---- no element that passes

pub none_passes : {A : Type 0} (p : A → Bool) (xs : List A) → split_first p xs ≡ None → Each (λ x. p x ≡ false) xs
none_passes p [] e = tt
none_passes {A} p (x ∷ xs) e =
    elim (p x) as (λ b. p x ≡ b → cond b (Some (let s : Split A = ([], x, xs) in s)) (option_map (λ t. let s : Split A = (x ∷ t.0, t.1, t.2) in s) (split_first p xs)) ≡ None → Each (λ x. p x ≡ false) (x ∷ xs)) [
      | true ↦ λ _ f. absurd (true≢false (ap is_some f))
      | false ↦ λ isnt f. (isnt, none_passes p xs (unmapped (split_first p xs) f))
    ] refl e
  where
    unmapped : (o : Option (Split A)) → option_map (λ t. let s : Split A = (x ∷ t.0, t.1, t.2) in s) o ≡ None → o ≡ None
    unmapped None f = refl
    unmapped (Some t) f = absurd (true≢false (ap is_some f))

pub no_split : {A : Type 0} (p : A → Bool) (xs : List A) → Each (λ x. p x ≡ false) xs → split_first p xs ≡ None
no_split p [] k = refl
no_split {A} p (x ∷ xs) k =
    ap (λ b. cond b (Some (let s : Split A = ([], x, xs) in s)) (option_map (λ t. let s : Split A = (x ∷ t.0, t.1, t.2) in s) (split_first p xs))) k.0
    ∙ ap (option_map (λ t. let s : Split A = (x ∷ t.0, t.1, t.2) in s)) (no_split p xs k.1)
