-- Lists that one function after the other makes.
use Rattle.std.specs.Prelude.{◌≡◌, List, [], ◌∷◌, map}
use mathlib.Core.Path.{refl, ap}

pub through : {A B C : Type 0} (f : B → C) (g : A → B) (xs : List A) → map (λ x. f (g x)) xs ≡ map f (map g xs)
through f g [] = refl
through f g (x ∷ xs) = ap (λ ys. f (g x) ∷ ys) (through f g xs)
