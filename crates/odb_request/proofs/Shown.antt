-- Columns of the code as the definitions see them, by the schema's names and types.
use Rattle.std.proofs.Common.{◌≡◌, ◌<◌, ℕ, List, [], ◌∷◌, length, map, get_or, refl, sym, ap, ◌∙◌}
use Rattle.std.proofs.lemmas.List.{get_or-map}
use Rattle.odb_cond.specs.Represented.Clause.{selector_of}
use Rattle.odb_cond.specs.declared.clause.Selector.{Selector}
use Rattle.odb_request.specs.Represented.Parts.{monitored_as}
use Rattle.odb_request.specs.Request.{Column}
use Rattle.odb_request.specs.Requests.{monitored}
use Rattle.odb_atoms.specs.Row as row
use Rattle.odb_schema.specs.Schema as schema

abbrev pub sources : List Column → List row.Selector
sources cs = map (λ c. c.source) cs

abbrev pub known_by : List schema.Column → List Column → List Column
known_by cs ms = map (λ m. monitored cs m.source) ms

pub sources-monitored : (cs : List schema.Column) (xs : List Selector) → map selector_of xs ≡ sources (map (monitored_as cs) xs)
sources-monitored cs [] = refl
sources-monitored cs (x ∷ xs) = ap (λ l. selector_of x ∷ l) (sources-monitored cs xs)

pub known_by-monitored : (cs : List schema.Column) (xs : List Selector) → map (monitored_as cs) xs ≡ known_by cs (map (monitored_as cs) xs)
known_by-monitored cs [] = refl
known_by-monitored cs (x ∷ xs) = ap (λ l. monitored_as cs x ∷ l) (known_by-monitored cs xs)

-- of two lists of which the same is made each place gives the same
pub same_at : {X Y Z : Type 0} (f : X → Z) (g : Y → Z) (xs : List X) (ys : List Y) (k : ℕ) (d : X) (e : Y) → k < length xs → k < length ys → map f xs ≡ map g ys → f (get_or xs k d) ≡ g (get_or ys k e)
same_at f g xs ys k d e low low' same = sym (get_or-map f xs k d (f d) low) ∙ ap (λ l. get_or l k (f d)) same ∙ get_or-map g ys k e (f d) low'
