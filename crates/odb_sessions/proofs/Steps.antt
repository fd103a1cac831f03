-- A walk over a list: what is left at a place is what stands there, and what is left at the next.
use Rattle.std.proofs.Common.{◌≡◌, ℕ, ◌+◌, ◌<◌, List, ◌∷◌, length, get_or, drop, drop-cons, add-one, sym, ◌∙◌}

pub front : {X : Type 0} (xs : List X) (i : ℕ) (x : X) → i < length xs → x ≡ get_or xs i x → drop i xs ≡ x ∷ drop (i + 1) xs
front xs i x low at = drop-cons xs i x low ∙ (λ j. sym at j ∷ drop (sym (add-one i) j) xs)
