use Rattle.std.proofs.Common.{◌≡◌, List, [], true, sym, subst}
use Rattle.odb_hub.specs.Inbox.{Inbox, IsInOrder}
use Rattle.odb_hub.specs.Represented.Inbox.{pending_of}
use Rattle.odb_hub.specs.declared.submission.Submission.{Submission}
use Rattle.odb_hub.proofs.Inboxes.{gave_up}
use Rattle.odb_hub.proofs.inbox.Inbox.stop.Goals as goal

pub invariant_of-self : goal.invariant_of-self
invariant_of-self c =
    let i = c.self.inside in
    let old : Inbox = record { most = i.framer.most; bytes = i.framer.bytes; submitted = i.submitted.requests; pending = pending_of i.batch.items; is_stopped = i.is_stopped } in
    (subst (λ (xs : List Submission). IsInOrder (record old { pending = pending_of xs; is_stopped = true })) (sym c.clear.ensures.items) (gave_up old c.self.invariant.0), c.self.invariant.1)
