use Rattle.std.proofs.Common.{refl}
use Rattle.std.proofs.lemmas.Result.{IfOk-weaker}
use Rattle.odb_front.specs.Answers.{nothing}
use Rattle.odb_front.proofs.answers.taken.Goals as goal

pub returns : goal.returns
returns c = IfOk-weaker c.replied.result _ _ (λ text h. h nothing refl) c.replied.ensures
