-- The first element that passes a test, with what stands before it and after it.
use Rattle.std.proofs.Common.{◌≡◌, Bool, true, false, cond, List, [], ◌∷◌, ◌++◌, Option, Some, None, refl, ap, subst, sym, is_some, true≢false}
use Rattle.std.specs.Prelude.{option_map}
use Rattle.odb_service.specs.World.{split_first}
use Rattle.odb_monitor.proofs.Views.{some_is}

abbrev pub Split : Type 0 → Type 0
Split A = List A × A × List A

abbrev pub IsSplitOf : {A : Type 0} → (A → Bool) → List A → Split A → Type 0
IsSplitOf p xs t = (xs ≡ t.0 ++ t.1 ∷ t.2) × (p t.1 ≡ true)

module _ {A : Type 0} (p : A → Bool) where
  later : (x : A) (xs : List A) (t : Split A) (o : Option (Split A)) → ((s : Split A) → o ≡ Some s → IsSplitOf p xs s)
      → option_map (λ t. let s : Split A = (x ∷ t.0, t.1, t.2) in s) o ≡ Some t → IsSplitOf p (x ∷ xs) t
  later x xs t None ih e = absurd (true≢false (sym (ap is_some e)))
  later x xs t (Some s) ih e = subst (IsSplitOf p (x ∷ xs)) (some_is _ t e) (ap (λ ys. x ∷ ys) (ih s refl).0, (ih s refl).1)

  pub split_parts : (xs : List A) (t : Split A) → split_first p xs ≡ Some t → IsSplitOf p xs t
  split_parts [] t e = absurd (true≢false (sym (ap is_some e)))
  split_parts (x ∷ xs) t e =
      elim (p x) as (λ b. p x ≡ b → cond b (Some (let s : Split A = ([], x, xs) in s)) (option_map (λ t. let s : Split A = (x ∷ t.0, t.1, t.2) in s) (split_first p xs)) ≡ Some t → IsSplitOf p (x ∷ xs) t) [
        | true ↦ λ is e. subst (IsSplitOf p (x ∷ xs)) (some_is _ t e) (refl, is)
        | false ↦ λ _ e. later x xs t (split_first p xs) (λ s is. split_parts xs s is) e
      ] refl e
