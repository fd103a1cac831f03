use Rattle.std.proofs.Common.{◌≡◌, ℕ, List, [], true, map, sym, ap, subst, ◌∙◌}
use Rattle.std.specs.Prelude.{Vec}
use Rattle.std.specs.declared.alloc.Global.{Global}
use Rattle.odb_wire.specs.Shown.{message_data}
use Rattle.odb_hub.specs.Inbox.{Inbox, IsInOrder}
use Rattle.odb_hub.specs.Represented.Inbox.{pending_of}
use Rattle.odb_hub.specs.declared.submission.Submission.{Submission}
use Rattle.odb_hub.proofs.Inboxes.{gave_up_after}
use Rattle.odb_hub.proofs.inbox.Inbox.take_in.Goals as goal

pub invariant_of-self-in-Err : goal.invariant_of-self-in-Err
invariant_of-self-in-Err g c =
    let i = c.self.inside in
    let bytes : List ℕ = c.feed.new.self.bytes in
    let old : Inbox = record { most = i.framer.most; bytes = i.framer.bytes; submitted = i.submitted.requests; pending = pending_of i.batch.items; is_stopped = i.is_stopped } in
    let gave : IsInOrder (record old { bytes = bytes; pending = []; is_stopped = true }) = gave_up_after old c.args.piece.now bytes (map message_data c.in-Ok.fed.messages.items) c.in-Ok.ensures.ok c.self.invariant.0 in
    let none : c.replace-batch.new.dest.items ≡ [] = ap (λ (v : Vec Submission Global). v.items) c.replace-batch.ensures.after ∙ c.new.ensures.items in (
      subst (λ (m : ℕ). IsInOrder (record old { most = m; bytes = bytes; pending = pending_of c.replace-batch.new.dest.items; is_stopped = true })) (sym c.feed.ensures.limit)
          (subst (λ (xs : List Submission). IsInOrder (record old { bytes = bytes; pending = pending_of xs; is_stopped = true })) (sym none) gave),
      c.in-Ok.ensures.fault,
    )
