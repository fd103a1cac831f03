use Rattle.std.proofs.Common.{◌++◌, ◌∙◌}
use Rattle.std.proofs.lemmas.Result.{IfOk-weaker}
use Rattle.odb_wire.specs.declared.split.Step.{Step}
use Rattle.odb_wire.proofs.Steps.{reads_first, reads_none}
use Rattle.odb_wire.proofs.split.complete.Goals as goal

pub returns-in_ok-push-in-Some-clause-ok : goal.returns-in_ok-push-in-Some-clause-ok
returns-in_ok-push-in-Some-clause-ok c =
    IfOk-weaker c.split.result _ _
    (λ (step : Step) reads. reads_first c.args.most (c.args.text.now.items ++ c.args.last.now) _ _ _ _ _ _ _ _ c.requires (c.as_slice.ensures.value ∙ c.in_ok-extend_from_slice.ensures.items)
    c.in_ok-message.ensures.data c.in-Some.is c.new-messages.ensures.items c.in_ok-push-in-Some.ensures.items reads)
    c.split.ensures.ok

pub returns-in-None-clause-ok : goal.returns-in-None-clause-ok
returns-in-None-clause-ok c =
    rw c.stopped.ensures (reads_none c.args.most (c.args.text.now.items ++ c.args.last.now) _ _ _ _ c.requires (c.as_slice.ensures.value ∙ c.in_ok-extend_from_slice.ensures.items) c.in_ok-message.ensures.data c.in-None.is c.new-messages.ensures.items)
