use Rattle.std.proofs.Common.{◌∙◌}
use Rattle.std.proofs.lemmas.Result.{IfOk-weaker}
use Rattle.serde_json.specs.Data.{string}
use Rattle.odb_front.proofs.answers.Answers.with_server_id.Goals as goal

pub returns : goal.returns
returns c = IfOk-weaker c.replied.result _ _ (λ text is a p. is (string a.server_id) (c.as_slice.ensures.value ∙ p.2)) c.replied.ensures
