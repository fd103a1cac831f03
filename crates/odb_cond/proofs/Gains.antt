-- What is prepared finds more rows by each member that is added.
use Rattle.std.specs.Prelude.{◌≡◌, ℕ, suc, zero, ◌<◌, Bool, true, false, ◌||◌, List, [], ◌∷◌, length, get_or, slice_set}
use Rattle.std.specs.List.{list_any}
use Rattle.std.proofs.Common.{arith}
use mathlib.Core.Path.{refl, ap, ◌∙◌}

last_of : (a b c : Bool) → ((a || b) || c) ≡ ((a || c) || b)
last_of true b c = refl
last_of false true true = refl
last_of false true false = refl
last_of false false true = refl
last_of false false false = refl

in_front : (a b t : Bool) → (a || (b || t)) ≡ ((a || b) || t)
in_front true b t = refl
in_front false b t = refl

-- an element that passes as it did, or by t, in place of what it was
pub any_put : {X : Type 0} (p : X → Bool) (t : Bool) (xs : List X) (k : ℕ) (d y : X) → k < length xs → p y ≡ (p (get_or xs k d) || t) → list_any p (slice_set xs k y) ≡ (list_any p xs || t)
any_put p t [] k d y low is = absurd (omega arith)
any_put p t (x ∷ xs) zero d y low is = ap (λ b. b || list_any p xs) is ∙ last_of (p x) t (list_any p xs)
any_put p t (x ∷ xs) (suc k) d y low is = ap (λ b. p x || b) (any_put p t xs k d y (omega arith) is) ∙ in_front (p x) (list_any p xs) t

-- what passes in the first of two lists
pub first_more : (new old others t : Bool) → new ≡ (old || t) → (new || others) ≡ ((old || others) || t)
first_more new old others t is = ap (λ b. b || others) is ∙ last_of old t others
