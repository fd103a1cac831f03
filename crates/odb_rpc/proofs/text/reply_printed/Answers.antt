use Rattle.std.proofs.Common.{sym, ap, ◌∙◌}
use Rattle.std.proofs.lemmas.Result.{IfOk-weaker}
use Rattle.serde_json.specs.Data.{null}
use Rattle.serde_json.specs.Written.{compact_text}
use Rattle.odb_rpc.specs.Represented.Texts.{response_text}
use Rattle.odb_rpc.proofs.Texts.{message_text}
use Rattle.odb_rpc.proofs.text.reply_printed.Goals as goal

pub returns : goal.returns
returns c =
    IfOk-weaker c.response.result _ _
    (λ _ is i d id printed.
    is
    ∙ ap (λ t. response_text (compact_text null) t c.args.printed.now) id
    ∙ ap (response_text (compact_text null) (compact_text i)) printed
    ∙ sym (message_text null i d))
    c.response.ensures
