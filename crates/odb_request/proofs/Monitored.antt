-- The columns of a request, and then their order.
use Rattle.std.specs.Prelude.{◌≡◌, List, [], ◌∷◌, map, Option, Some, None}
use mathlib.Core.Path.{refl, sym, ap, ◌∙◌}
use Rattle.odb_atoms.specs.Error.{Error}
use Rattle.odb_atoms.specs.First.{Result, Ok, Err, ◌>>=◌}
use Rattle.odb_atoms.specs.Row as row
use Rattle.odb_cond.specs.Represented.Clause.{selector_of}
use Rattle.odb_cond.specs.declared.clause.Selector.{Selector}
use Rattle.odb_request.specs.Represented.Parts.{asked_columns, monitored_as}
use Rattle.odb_request.specs.Request.{Column}
use Rattle.odb_request.specs.Requests.{in_order, monitored, read_monitored}
use Rattle.odb_schema.specs.Json.{Data}
use Rattle.odb_schema.specs.Schema as schema

abbrev next : {A B : Type 0} → Result A Error → (A → Result B Error) → Result B Error
next = ◌>>=◌

shown : (cs : List schema.Column) (xs : List Selector) → map (monitored cs) (map selector_of xs) ≡ map (monitored_as cs) xs
shown cs [] = refl
shown cs (x ∷ xs) = ap (λ l. monitored_as cs x ∷ l) (shown cs xs)

abbrev sorted : List schema.Column → Result (List row.Selector) Error → Result (List Column) Error
sorted cs r = next r (λ all. Ok (in_order (map (monitored cs) all)))

whole : (cs : List schema.Column) (o : Option Data) → read_monitored cs o ≡ sorted cs (asked_columns cs o)
whole cs None = refl
whole cs (Some d) = refl

pub monitored_is : (cs : List schema.Column) (o : Option Data) (xs : List Selector) (ys : List Column) → asked_columns cs o ≡ Ok (map selector_of xs) → ys ≡ in_order (map (monitored_as cs) xs) → read_monitored cs o ≡ Ok ys
monitored_is cs o xs ys e is = whole cs o ∙ ap (sorted cs) e ∙ ap (λ l. Ok (in_order l)) (shown cs xs) ∙ ap Ok (sym is)

pub monitored_fault : (cs : List schema.Column) (o : Option Data) (f : Error) → asked_columns cs o ≡ Err f → read_monitored cs o ≡ Err f
monitored_fault cs o f e = whole cs o ∙ ap (sorted cs) e
