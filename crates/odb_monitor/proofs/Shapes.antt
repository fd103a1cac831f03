-- The columns of a shape, by the table's.
use Rattle.std.proofs.Common.{◌≡◌, List, [], ◌∷◌, map, refl, sym, ap, ◌∙◌}
use Rattle.odb_cond.specs.Represented.Clause.{selector_of}
use Rattle.odb_cond.specs.declared.clause.Selector.{Selector}
use Rattle.odb_request.specs.Represented.Parts.{monitored_as}
use Rattle.odb_request.specs.Request.{Column}
use Rattle.odb_request.specs.Requests.{monitored}
use Rattle.odb_schema.specs.Schema as schema

by_source : (ts : List schema.Column) (xs : List Selector) → map (monitored_as ts) xs ≡ map (monitored ts) (map selector_of xs)
by_source ts [] = refl
by_source ts (x ∷ xs) = ap (λ l. monitored_as ts x ∷ l) (by_source ts xs)

of_sources : (ts : List schema.Column) (cs : List Column) → map (monitored ts) (map (λ (c : Column). c.source) cs) ≡ map (λ c. monitored ts c.source) cs
of_sources ts [] = refl
of_sources ts (c ∷ cs) = ap (λ l. monitored ts c.source ∷ l) (of_sources ts cs)

pub monitored_all : (ts : List schema.Column) (xs : List Selector) (cs : List Column) → map selector_of xs ≡ map (λ (c : Column). c.source) cs → cs ≡ map (λ c. monitored ts c.source) cs → map (monitored_as ts) xs ≡ cs
monitored_all ts xs cs named known = by_source ts xs ∙ ap (map (monitored ts)) named ∙ of_sources ts cs ∙ sym known
