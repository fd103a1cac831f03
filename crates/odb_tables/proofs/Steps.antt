-- A walk over a list: what is left at a place is what stands there, and what is left at the next.
use Rattle.std.proofs.Common.{◌≡◌, ℕ, ◌+◌, ◌++◌, ◌<◌, List, [], ◌∷◌, length, map, get_or, drop, drop-cons, add-one, take, sym, ap, ◌∙◌}
use Rattle.std.proofs.lemmas.List.{map-append, take_more}

pub front : {X : Type 0} (xs : List X) (i : ℕ) (x : X) → i < length xs → x ≡ get_or xs i x → drop i xs ≡ x ∷ drop (i + 1) xs
front xs i x low at = drop-cons xs i x low ∙ (λ j. sym at j ∷ drop (sym (add-one i) j) xs)

pub front_or : {X : Type 0} (xs : List X) (i : ℕ) (d : X) → i < length xs → drop i xs ≡ get_or xs i d ∷ drop (i + 1) xs
front_or xs i d low = drop-cons xs i d low ∙ (λ j. get_or xs i d ∷ drop (sym (add-one i) j) xs)

-- what f makes of those that were taken, one more
pub mapped_more : {X Y : Type 0} (f : X → Y) (xs : List X) (i : ℕ) (x : X) → i < length xs → x ≡ get_or xs i x → map f (take (i + 1) xs) ≡ map f (take i xs) ++ f x ∷ []
mapped_more f xs i x low at = ap (map f) (take_more xs i x low ∙ ap (λ y. take i xs ++ y ∷ []) (sym at)) ∙ map-append f (take i xs) (x ∷ [])
