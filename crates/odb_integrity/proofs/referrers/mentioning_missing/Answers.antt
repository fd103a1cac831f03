use Rattle.std.proofs.Common.{rules, ◌≡◌, ◌∙◌, [], ap}
use Rattle.std.specs.List.{list_any}
use Rattle.std.proofs.lemmas.Result.{IfOk-weaker}
use Rattle.odb_integrity.specs.Represented.Reference.{mentions_gone, references_of}
use Rattle.odb_integrity.specs.Settlement.{same_row}
use Rattle.odb_integrity.proofs.Concerned.{none_mentions}
use Rattle.odb_integrity.proofs.referrers.mentioning_missing.Goals as goal

pub returns-then-not-is_one_missing : goal.returns-then-not-is_one_missing
returns-then-not-is_one_missing c = λ x.
    let rows = c.args.rows.now in
    let now = c.args.draft.now.now in
    let empty : c.new.result.items ≡ [] = search rules in
    ap (list_any (same_row x)) empty ∙ none_mentions (references_of c.args.schema.now) now rows (search rules) x

pub returns : goal.returns
returns c =
    let now = c.args.draft.now.now in
    IfOk-weaker c.referrers_of_missing.result _ _ (λ all found x. found x
    ∙ (λ i. list_any (mentions_gone ((c.deref.ensures.value ∙ c.in_ok-references.ensures) i) now x) c.args.rows.now)) c.referrers_of_missing.ensures
