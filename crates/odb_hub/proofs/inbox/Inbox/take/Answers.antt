use Rattle.std.proofs.Common.{rules, ◌≡◌, List, [], ◌∷◌, ◌++◌, sym, ap, subst, ◌∙◌}
use Rattle.odb_hub.specs.Inbox.{Inbox, IsInOrder, Pending, messages_of}
use Rattle.odb_hub.specs.Represented.Inbox.{pending_in, pending_of, submitted_in}
use Rattle.odb_hub.specs.declared.submission.Submission.{Submission}
use Rattle.odb_hub.specs.declared.submitted.BatchStep.{BatchStep}
use Rattle.odb_hub.proofs.Inboxes.{moved_on, noted, popped_front}
use Rattle.odb_hub.proofs.inbox.Inbox.take.Goals as goal

pub invariant_of-self-2 : goal.invariant_of-self-2
invariant_of-self-2 c =
    let i = c.self.inside in
    let xs : List Submission = i.batch.items in
    let ys : List Submission = c.pop.new.self.items in
    let front : List Pending = pending_in c.in-Some.first ∷ [] in
    let popped : xs ≡ ys ++ c.in-Some.first ∷ [] = search rules in
    let e : pending_of xs ≡ front ++ pending_of ys = popped_front xs ys c.in-Some.first popped in
    let step : BatchStep = record { before = c.of-before.result; left = c.of-left.result } in
    let took : submitted_in step ≡ messages_of front = noted step xs ys front (λ j. (c.of-before.ensures j).items) (λ j. (c.of-left.ensures j).items) e in
    let submitted : c.after-self-inside.result.requests ≡ i.submitted.requests ++ messages_of front = c.after-self-inside.ensures ∙ ap (λ ds. i.submitted.requests ++ ds) took in
    let old : Inbox = record { most = i.framer.most; bytes = i.framer.bytes; submitted = i.submitted.requests; pending = pending_of xs; is_stopped = i.is_stopped } in
    (subst (λ ds. IsInOrder (record old { submitted = ds; pending = pending_of ys })) (sym submitted) (moved_on old front (pending_of ys) e c.self.invariant.0), c.self.invariant.1)

pub returns-clause-some : goal.returns-clause-some
returns-clause-some c =
    let i = c.self.inside in
    let xs : List Submission = i.batch.items in
    let ys : List Submission = c.pop.new.self.items in
    let front : List Pending = pending_in c.in-Some.first ∷ [] in
    let popped : xs ≡ ys ++ c.in-Some.first ∷ [] = search rules in
    let e : pending_of xs ≡ front ++ pending_of ys = popped_front xs ys c.in-Some.first popped in
    let step : BatchStep = record { before = c.of-before.result; left = c.of-left.result } in
    let took : submitted_in step ≡ messages_of front = noted step xs ys front (λ j. (c.of-before.ensures j).items) (λ j. (c.of-left.ensures j).items) e in
    let view : record { most = i.framer.most; bytes = i.framer.bytes; submitted = i.submitted.requests; pending = pending_of xs; is_stopped = i.is_stopped } ≡ c.args.self.now = c.self.view_is in
    let submitted : c.after-self-inside.result.requests ≡ c.args.self.now.submitted ++ messages_of front =
    c.after-self-inside.ensures ∙ ap (λ ds. i.submitted.requests ++ ds) took ∙ ap (λ (x : Inbox). x.submitted ++ messages_of front) view in (
      sym (ap (λ (x : Inbox). x.pending) view) ∙ e,
      λ j. let n : Inbox = record { most = (view j).most; bytes = (view j).bytes; submitted = submitted j; pending = pending_of ys; is_stopped = (view j).is_stopped } in n,
    )
