use Rattle.std.proofs.Common.{rules, ◌≡◌, true, false, IfSome, sym, ap, subst, ◌∙◌}
use Rattle.odb_atoms.specs.Uuid.{Uuid}
use Rattle.odb_atoms.specs.Value.{is_map}
use Rattle.odb_cond.specs.Condition.{equal, includes}
use Rattle.odb_tables.specs.Indexed.{mentions}
use Rattle.odb_tables.proofs.Conditions.{asked_equal, asked_included}
use Rattle.odb_tables.proofs.Facets.{if_some}
use Rattle.odb_tables.proofs.row_test.asked.Goals as goal

pub returns-in-Equal : goal.returns-in-Equal
returns-in-Equal c =
    let condition = c.args.condition.now in
    let is : condition.function ≡ equal = search rules in
    if_some c.first_mentioned.result (λ tag here u r h.
    let some : mentions tag c.value.result.now ≡ true = subst (λ o. IfSome o (λ (t : Uuid). mentions t c.value.result.now ≡ true)) here c.first_mentioned.ensures.mentioned in
    let set : is_map c.value.result.now ≡ false = subst (λ o. IfSome o (λ (t : Uuid). is_map c.value.result.now ≡ false)) here c.first_mentioned.ensures.set in
    asked_equal condition tag (ap is_map (sym c.value.ensures) ∙ set) (ap (mentions tag) (sym c.value.ensures) ∙ some) u r h is)

pub returns-in-Includes : goal.returns-in-Includes
returns-in-Includes c =
    let condition = c.args.condition.now in
    let is : condition.function ≡ includes = search rules in
    if_some c.first_mentioned-in-Includes.result (λ tag here u r h.
    let some : mentions tag c.value-in-Includes.result.now ≡ true = subst (λ o. IfSome o (λ (t : Uuid). mentions t c.value-in-Includes.result.now ≡ true)) here c.first_mentioned-in-Includes.ensures.mentioned in
    let set : is_map c.value-in-Includes.result.now ≡ false = subst (λ o. IfSome o (λ (t : Uuid). is_map c.value-in-Includes.result.now ≡ false)) here c.first_mentioned-in-Includes.ensures.set in
    asked_included condition tag (ap is_map (sym c.value-in-Includes.ensures) ∙ set) (ap (mentions tag) (sym c.value-in-Includes.ensures) ∙ some) u r h is)
