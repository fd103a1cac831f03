-- Names that stand once, as the code tests them.
use Rattle.std.specs.Prelude.{◌≡◌, ℕ, not, ◌&&◌, List, [], ◌∷◌, map}
use Rattle.std.specs.List.{list_all}
use Rattle.std.proofs.lemmas.List.Folds.{list_all-map}
use mathlib.Core.Path.{refl, sym, ap, ◌∙◌}
use Rattle.odb_atoms.specs.Row as row
use Rattle.odb_atoms.specs.Text.{same_text}
use Rattle.odb_cond.specs.Represented.Clause.{selector_of}
use Rattle.odb_cond.specs.declared.clause.Selector.{Selector}
use Rattle.odb_request.specs.Represented.Parts.{are_apart, are_tables_apart}
use Rattle.odb_request.specs.Request.{Column, Request, column_names}
use Rattle.odb_request.specs.Requests.{are_distinct}
use Rattle.odb_request.proofs.Shown.{known_by, sources}
use Rattle.odb_schema.specs.Schema as schema
use Rattle.odb_schema.specs.Schema.{selector_name}

abbrev named : List schema.Column → List row.Selector → List (List ℕ)
named cs ss = map (selector_name cs) ss

other-map : {X : Type 0} (f : X → List ℕ) (name : List ℕ) (xs : List X) → list_all (λ m. not (same_text name m)) (map f xs) ≡ list_all (λ x. not (same_text name (f x))) xs
other-map f name [] = refl
other-map f name (x ∷ xs) = ap (λ b. not (same_text name (f x)) && b) (other-map f name xs)

pub tables_named : (qs : List Request) → are_distinct (map (λ q. q.shape.name) qs) ≡ are_tables_apart qs
tables_named [] = refl
tables_named (q ∷ qs) = (λ i. other-map (λ q. q.shape.name) q.shape.name qs i && tables_named qs i)

columns_apart : (cs : List schema.Column) (xs : List Selector) → are_apart cs xs ≡ are_distinct (named cs (map selector_of xs))
columns_apart cs [] = refl
columns_apart cs (x ∷ xs) = (λ i. sym (other-map (selector_name cs) (selector_name cs (selector_of x)) (map selector_of xs) ∙ other-map-through) i && columns_apart cs xs i)
  where
    other-map-through : list_all (λ s. not (same_text (selector_name cs (selector_of x)) (selector_name cs s))) (map selector_of xs) ≡ list_all (λ y. not (same_text (selector_name cs (selector_of x)) (selector_name cs (selector_of y)))) xs
    other-map-through = list_all-map _ selector_of xs

names_known : (cs : List schema.Column) (ms : List Column) → column_names (known_by cs ms) ≡ named cs (sources ms)
names_known cs [] = refl
names_known cs (m ∷ ms) = ap (λ l. selector_name cs m.source ∷ l) (names_known cs ms)

pub columns_named : (cs : List schema.Column) (xs : List Selector) (ms : List Column) → map selector_of xs ≡ sources ms → ms ≡ known_by cs ms → are_apart cs xs ≡ are_distinct (column_names ms)
columns_named cs xs ms from known =
    columns_apart cs xs ∙ ap (λ l. are_distinct (named cs l)) from
    ∙ ap are_distinct (sym (names_known cs ms)) ∙ ap (λ l. are_distinct (column_names l)) (sym known)
