use Rattle.std.proofs.Common.{rules, ◌≡◌, List, [], ◌∷◌, string_bytes, sym, ap, ◌∙◌}
use Rattle.serde_json.specs.Written.{compact_text}
use Rattle.odb_rpc.specs.Message.{notification}
use Rattle.odb_schema.specs.Json.{Data, array_of, string}
use Rattle.odb_queue.proofs.answer.noticed.Goals as goal

pub invariant_of-result-clause-printed : goal.invariant_of-result-clause-printed
invariant_of-result-clause-printed c =
    let name = string_bytes c.args.notice.now.name in
    let printed : c.as_slice.result.now ≡ compact_text (array_of (string name ∷ [])) = search rules in
    let text : (ds : List Data) → c.as_slice.result.now ≡ compact_text (array_of ds) → c.in_ok-text.text.items ≡ compact_text (notification c.method.result.now ds) = search rules in
    text (string name ∷ []) printed
    ∙ ap (λ m. compact_text (notification m (string name ∷ []))) c.method.ensures
    ∙ ap compact_text (sym c.of.ensures.1)
