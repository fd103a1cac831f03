-- What holds of each of a list, and what is made of it one by one, from the front.
use Rattle.std.specs.Prelude.{◌≡◌, Bool, true, false, cond, ◌&&◌, filter, List, [], ◌∷◌, ◌++◌, map, Result, Ok}
use Rattle.std.specs.List.{list_all}
use Rattle.odb_atoms.proofs.Lists.{both}
use mathlib.Core.Path.{refl, ap}
use Rattle.odb_atoms.specs.First.{◌>>=◌}

pub all-filter : {A : Type 0} (p q : A → Bool) (xs : List A) → list_all p xs ≡ true → list_all p (filter q xs) ≡ true
all-filter p q [] h = refl
all-filter p q (x ∷ xs) h =
    let parts = both (p x) (list_all p xs) h in
    let rest = all-filter p q xs parts.1 in
    elim (q x) as (λ b. list_all p (cond b (x ∷ filter q xs) (filter q xs)) ≡ true) [ true ↦ (λ i. parts.0 i && rest i) | false ↦ rest ]

pub filter-map : {A B : Type 0} (f : A → B) (p : B → Bool) (xs : List A) → map f (filter (λ x. p (f x)) xs) ≡ filter p (map f xs)
filter-map f p [] = refl
filter-map f p (x ∷ xs) =
    let rest = filter-map f p xs in
    elim (p (f x)) as (λ b. map f (cond b (x ∷ filter (λ y. p (f y)) xs) (filter (λ y. p (f y)) xs)) ≡ cond b (f x ∷ filter p (map f xs)) (filter p (map f xs))) [ true ↦ ap (λ ys. f x ∷ ys) rest | false ↦ rest ]

-- what is made of a rest, after what was made before it
abbrev pub after : {B E : Type 0} → List B → Result (List B) E → Result (List B) E
after done r = ◌>>=◌ r (λ ys. Ok (done ++ ys))
