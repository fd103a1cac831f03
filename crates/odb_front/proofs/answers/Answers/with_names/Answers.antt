use Rattle.std.proofs.Common.{◌∙◌}
use Rattle.std.proofs.lemmas.Result.{IfOk-weaker}
use Rattle.odb_front.specs.Answers.{names_of}
use Rattle.odb_front.proofs.answers.Answers.with_names.Goals as goal

pub returns : goal.returns
returns c = IfOk-weaker c.replied.result _ _ (λ text is a p. is (names_of a) (c.as_slice.ensures.value ∙ p.1)) c.replied.ensures
