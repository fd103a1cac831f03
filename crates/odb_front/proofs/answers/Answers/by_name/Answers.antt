use Rattle.std.proofs.Common.{rules, ◌≡◌, Some, None, ap, ◌∙◌}
use Rattle.std.proofs.lemmas.Result.{IfOk-weaker}
use Rattle.odb_rpc.specs.Represented.Printable.{printable_data}
use Rattle.odb_front.specs.Answers.{beside}
use Rattle.odb_front.proofs.Schemas.{beside_printed, refused, replied}
use Rattle.odb_front.proofs.answers.Answers.by_name.Goals as goal

pub returns-in-Some : goal.returns-in-Some
returns-in-Some c =
    let name = c.args.name.now in
    let known : Some c.in-Some.schema.now ≡ beside name c.as_slice.result.now = search rules in
    IfOk-weaker c.replied.result _ _
    (λ text is a p. replied text.items c.in-Some.schema.now (printable_data c.args.id) (beside name a.schemas)
    (known ∙ ap (beside name) (c.as_slice.ensures.value ∙ p.0) ∙ beside_printed name a.schemas) is)
    c.replied.ensures

pub returns-in-None : goal.returns-in-None
returns-in-None c =
    let name = c.args.name.now in
    let known : None ≡ beside name c.as_slice.result.now = search rules in
    IfOk-weaker c.failure.result _ _
    (λ text is a p. refused text.items (printable_data c.args.id) (beside name a.schemas)
    (known ∙ ap (beside name) (c.as_slice.ensures.value ∙ p.0) ∙ beside_printed name a.schemas) is)
    c.failure.ensures
