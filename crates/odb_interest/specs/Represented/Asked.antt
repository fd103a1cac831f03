-- What a filter that a session asks stands for, and a list that loses one.
use Rattle.std.specs.Prelude.{◌≡◌, ◌≢◌, ◌⊎◌, List, ◌∷◌, ◌++◌}
use Rattle.std.specs.Arc.{arc_value}
use Rattle.std.specs.List.{All}
use Rattle.odb_interest.specs.Keys as model
use Rattle.odb_interest.specs.declared.asked.Asked.TheInside.{Inside}

abbrev pub asked_of : Inside → model.Asked
asked_of a = (a.table, arc_value a.filter)

-- the first x is gone, if there is one
abbrev pub LosesFirst : {X : Type 0} → X → List X → List X → Type 0
LosesFirst {X} x xs ys =
    ((front : List X) × (back : List X) × (xs ≡ front ++ x ∷ back) × (ys ≡ front ++ back) × All (λ y. y ≢ x) front)
    ⊎ ((ys ≡ xs) × All (λ y. y ≢ x) xs)
