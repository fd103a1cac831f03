use Rattle.std.proofs.Common.{rules, ◌≡◌, ◌<◌, List, length, ap, ◌∙◌}
use Rattle.odb_wire.specs.Shown.{request_data}
use Rattle.odb_hub.specs.declared.submission.Submission.{Submission}
use Rattle.odb_hub.proofs.Inboxes.{request_at}
use Rattle.odb_hub.proofs.inbox.request_from_end.Goals as goal

pub returns-clause-some : goal.returns-clause-some
returns-clause-some c =
    let xs : List Submission = c.args.batch.now in
    let low : c.args.place < length xs = search rules in
    ap (λ (x : Submission). request_data x.request) c.index-batch-batch.is ∙ request_at xs c.args.place c.index-batch-batch.result low
