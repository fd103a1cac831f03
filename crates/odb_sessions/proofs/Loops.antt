-- Lists that a loop makes, one round longer.
use Rattle.std.proofs.Common.{◌≡◌, ◌+◌, ◌++◌, ◌<◌, ℕ, List, [], ◌∷◌, flat_map, length, map, slice_index_or, take, sym, ap, ◌∙◌, refl}
use Rattle.std.proofs.lemmas.Grind.{flat_map-append}
use Rattle.std.proofs.lemmas.List.{append-nil, map-append, take_more}

-- one more of those that were taken
pub one_more : {X : Type 0} (xs : List X) (i : ℕ) (x : X) → i < length xs → x ≡ slice_index_or xs i x → take (i + 1) xs ≡ take i xs ++ x ∷ []
one_more xs i x inside at = take_more xs i x inside ∙ ap (λ y. take i xs ++ y ∷ []) (sym at)

pub mapped_more : {X Y : Type 0} (g : X → Y) (xs : List X) (i : ℕ) (x : X) → i < length xs → x ≡ slice_index_or xs i x → map g (take (i + 1) xs) ≡ map g (take i xs) ++ g x ∷ []
mapped_more g xs i x inside at = ap (map g) (one_more xs i x inside at) ∙ map-append g (take i xs) (x ∷ [])

-- the same of what two functions make of each
pub twice_more : {X Y Z : Type 0} (f : Y → Z) (g : X → Y) (xs : List X) (i : ℕ) (x : X) → i < length xs → x ≡ slice_index_or xs i x
    → map f (map g (take (i + 1) xs)) ≡ map f (map g (take i xs)) ++ f (g x) ∷ []
twice_more f g xs i x inside at = ap (map f) (mapped_more g xs i x inside at) ∙ map-append f (map g (take i xs)) (g x ∷ [])

-- what is made of each, one after the other
pub flat_more : {X Y : Type 0} (f : X → List Y) (xs : List X) (i : ℕ) (x : X) → i < length xs → x ≡ slice_index_or xs i x → flat_map f (take (i + 1) xs) ≡ flat_map f (take i xs) ++ f x
flat_more f xs i x inside at = ap (flat_map f) (one_more xs i x inside at) ∙ flat_map-append f (take i xs) (x ∷ []) ∙ ap (λ ys. flat_map f (take i xs) ++ ys) (append-nil (f x))

pub mapped_twice : {A B C : Type 0} (f : B → C) (g : A → B) (xs : List A) → map f (map g xs) ≡ map (λ x. f (g x)) xs
mapped_twice f g [] = refl
mapped_twice f g (x ∷ xs) = ap (λ ys. f (g x) ∷ ys) (mapped_twice f g xs)
