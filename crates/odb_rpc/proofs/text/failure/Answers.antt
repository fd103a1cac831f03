use Rattle.std.proofs.Common.{rules, ◌≡◌, sym, ◌∙◌}
use Rattle.std.proofs.lemmas.Result.{IfOk-weaker}
use Rattle.serde_json.specs.Data.{null}
use Rattle.serde_json.specs.Written.{compact_text}
use Rattle.odb_rpc.specs.Message.{failure_data}
use Rattle.odb_rpc.specs.Represented.Failure.{failure_of}
use Rattle.odb_rpc.specs.Represented.Printable.{printable_data}
use Rattle.odb_rpc.specs.Represented.Texts.{response_text}
use Rattle.odb_rpc.proofs.Texts.{message_text}
use Rattle.odb_rpc.proofs.text.failure.Goals as goal

pub returns : goal.returns
returns c =
    let id = printable_data c.args.id in
    let error = failure_data (failure_of c.args.why) in
    let error_printed : c.as_slice.result.now ≡ compact_text error = search rules in
    let id_printed : c.as_slice-2.result.now ≡ compact_text id = search rules in
    IfOk-weaker c.response.result _ _ (λ _ is. is ∙ (λ i. response_text (error_printed i) (id_printed i) (compact_text null)) ∙ sym (message_text error id null)) c.response.ensures
