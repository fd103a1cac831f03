-- Lists of JSON.
use Rattle.std.proofs.Common.{◌≡◌, Bool, ◌||◌, Option, Some, None, List, [], ◌∷◌, map, refl, sym, ap, ◌∙◌}
use Rattle.std.specs.List.{list_any}
use Rattle.serde_json.specs.Data.{Data, Items}
use Rattle.serde_json.specs.View.{view, items_view}
use Rattle.serde_json.specs.declared.value.Value.{Value}
use Rattle.odb_schema.specs.Json.{items_list}

listed : (xs : List Value) → items_list (items_view xs) ≡ map view xs
listed [] = refl
listed (x ∷ xs) = ap (λ ds. view x ∷ ds) (listed xs)

pub any_of : {A B : Type 0} (p : B → Bool) (f : A → B) (xs : List A) → list_any p (map f xs) ≡ list_any (λ x. p (f x)) xs
any_of p f [] = refl
any_of p f (x ∷ xs) = ap (λ b. p (f x) || b) (any_of p f xs)

pub members_are : (o : Option Items) (xs : List Value) → Some (items_view xs) ≡ o → map view xs ≡ elim o as (λ _. List Data) [ None ↦ [] | Some ds ↦ items_list ds ]
members_are o xs e = sym (listed xs) ∙ ap (λ p. elim p as (λ _. List Data) [ None ↦ [] | Some ds ↦ items_list ds ]) e

pub map_twice : {A B C : Type 0} (g : B → C) (f : A → B) (xs : List A) → map (λ x. g (f x)) xs ≡ map g (map f xs)
map_twice g f [] = refl
map_twice g f (x ∷ xs) = ap (λ ys. g (f x) ∷ ys) (map_twice g f xs)
