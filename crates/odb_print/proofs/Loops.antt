-- Lists that a loop makes, one round longer.
use Rattle.std.proofs.Common.{◌≡◌, ℕ, ◌+◌, ◌++◌, ◌<◌, List, [], ◌∷◌, flat_map, get_or, length, map, take, sym, ap, ◌∙◌, append_assoc}
use Rattle.std.proofs.lemmas.Grind.{flat_map-append}
use Rattle.std.proofs.lemmas.List.{append-nil, map-append, take_more}

pub one_more : {X : Type 0} (xs : List X) (i : ℕ) (x : X) → i < length xs → x ≡ get_or xs i x → take (i + 1) xs ≡ take i xs ++ x ∷ []
one_more xs i x inside at = take_more xs i x inside ∙ ap (λ y. take i xs ++ y ∷ []) (sym at)

pub flat_more : {X Y Z : Type 0} (f : Y → List Z) (g : X → Y) (xs : List X) (i : ℕ) (x : X) → i < length xs → x ≡ get_or xs i x → flat_map f (map g (take (i + 1) xs)) ≡ flat_map f (map g (take i xs)) ++ f (g x)
flat_more f g xs i x inside at =
    ap (λ ys. flat_map f (map g ys)) (one_more xs i x inside at) ∙ ap (flat_map f) (map-append g (take i xs) (x ∷ [])) ∙ flat_map-append f (map g (take i xs)) (g x ∷ []) ∙ ap (λ zs. flat_map f (map g (take i xs)) ++ zs) (append-nil (f (g x)))

-- what was printed, and one more
pub printed_more : {X Y Z : Type 0} (f : Y → List Z) (g : X → Y) (xs : List X) (i : ℕ) (x : X) (first old new : List Z) → i < length xs → x ≡ get_or xs i x
    → old ≡ first ++ flat_map f (map g (take i xs)) → new ≡ old ++ f (g x) → new ≡ first ++ flat_map f (map g (take (i + 1) xs))
printed_more f g xs i x first old new inside at is more =
    more ∙ ap (λ zs. zs ++ f (g x)) is ∙ append_assoc first (flat_map f (map g (take i xs))) (f (g x)) ∙ ap (λ zs. first ++ zs) (sym (flat_more f g xs i x inside at))
