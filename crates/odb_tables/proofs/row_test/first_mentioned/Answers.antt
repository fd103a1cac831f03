use Rattle.std.proofs.Common.{rules, ◌≡◌, Some, slice_get, sym, ◌∙◌}
use Rattle.odb_tables.proofs.Conditions.{set-listed}
use Rattle.odb_tables.proofs.Facets.{first-mentioned, if_some}
use Rattle.odb_tables.proofs.row_test.first_mentioned.Goals as goal

pub returns-in-Some-clause-mentioned : goal.returns-in-Some-clause-mentioned
returns-in-Some-clause-mentioned c =
    let at : slice_get c.in-Set.elements 0 ≡ Some c.in-Some.first.now = search rules in
    if_some c.key_of.result (λ u is. first-mentioned u c.in-Some.first.now c.in-Set.elements c.args.value.now c.in-Set.ensures.listed at (sym c.key_of.ensures ∙ is))

pub returns-in-Some-clause-set : goal.returns-in-Some-clause-set
returns-in-Some-clause-set c = if_some c.key_of.result (λ _ _. set-listed c.in-Set.elements c.args.value.now c.in-Set.ensures.listed)
