-- Copies of filters.
use Rattle.std.proofs.Common.{◌≡◌, ℕ, List, [], ◌∷◌, map, refl}
use Rattle.std.specs.Arc.{arc_value}
use Rattle.std.specs.List.{AllZip}
use Rattle.odb_cond.specs.Filter.{Filter}
use Rattle.odb_request.specs.Represented.Change.{change_of}
use Rattle.odb_request.specs.Represented.Shape.{table_name}
use Rattle.odb_request.specs.declared.change.Change.{Change}
use Rattle.odb_schema.specs.Schema.{Schema}

pub changes_again : (s : Schema) (xs ys : List Change) → AllZip (λ x y. (y.table ≡ x.table) × (arc_value y.filter ≡ arc_value x.filter)) xs ys → map (change_of s) ys ≡ map (change_of s) xs
changes_again s [] [] h = refl
changes_again s [] (y ∷ ys) h = absurd h
changes_again s (x ∷ xs) [] h = absurd h
changes_again s (x ∷ xs) (y ∷ ys) h = λ i. let c : List ℕ × Filter = (table_name s (h.0.0 i), h.0.1 i) in c ∷ changes_again s xs ys h.1 i
