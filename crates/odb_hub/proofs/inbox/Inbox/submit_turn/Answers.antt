use Rattle.std.proofs.Common.{◌≡◌, ℕ, Bool, List, ◌++◌, sym, ap, subst, ◌∙◌}
use Rattle.std.specs.Prelude.{Result}
use Rattle.serde_json.specs.Data.{Data}
use Rattle.odb_core.specs.declared.refused.EventRefusal.{EventRefusal}
use Rattle.odb_service.specs.Run.{Event}
use Rattle.odb_hub.specs.Batch.{Submits}
use Rattle.odb_hub.specs.Inbox.{Inbox, IsInOrder, Pending, events_at, messages_of}
use Rattle.odb_hub.specs.Guarded.{Guarded}
use Rattle.odb_hub.specs.Represented.Inbox.{pending_of, submitted_in}
use Rattle.odb_hub.specs.Represented.Submission.{events_of}
use Rattle.odb_hub.specs.declared.submission.Submission.{Submission}
use Rattle.odb_hub.specs.declared.submitted.BatchStep.{BatchStep}
use Rattle.odb_hub.proofs.Inboxes.{events_are, moved_on, noted, turn_front}
use Rattle.odb_hub.proofs.inbox.Inbox.submit_turn.Goals as goal

abbrev Fronts : List Submission → List Submission → Type 0
Fronts xs ys = (front : List Pending) × (pending_of xs ≡ front ++ pending_of ys)

pub invariant_of-self : goal.invariant_of-self
invariant_of-self g c =
    let i = c.self.inside in
    let xs : List Submission = i.batch.items in
    let ys : List Submission = c.submit_turn-outcome.new.batch.items in
    let f : Fronts xs ys = turn_front c.submit_turn-outcome.result.owes c.args.seat.now.session c.args.now xs ys c.args.hub.now.guarded c.submit_turn-outcome.new.self.guarded c.submit_turn-outcome.ensures.submits in
    let step : BatchStep = record { before = c.of-before.result; left = c.of.result } in
    let took : submitted_in step ≡ messages_of f.0 = noted step xs ys f.0 (λ j. (c.of-before.ensures j).items) (λ j. (c.of.ensures j).items) f.1 in
    let submitted : c.after-self-inside.result.requests ≡ i.submitted.requests ++ messages_of f.0 = c.after-self-inside.ensures ∙ ap (λ ds. i.submitted.requests ++ ds) took in
    let old : Inbox = record { most = i.framer.most; bytes = i.framer.bytes; submitted = i.submitted.requests; pending = pending_of xs; is_stopped = i.is_stopped } in
    (subst (λ ds. IsInOrder (record old { submitted = ds; pending = pending_of ys })) (sym submitted) (moved_on old f.0 (pending_of ys) f.1 c.self.invariant.0), c.self.invariant.1)

pub returns-clause-order : goal.returns-clause-order
returns-clause-order g c =
    let i = c.self.inside in
    let xs : List Submission = i.batch.items in
    let ys : List Submission = c.submit_turn-outcome.new.batch.items in
    let f : Fronts xs ys = turn_front c.submit_turn-outcome.result.owes c.args.seat.now.session c.args.now xs ys c.args.hub.now.guarded c.submit_turn-outcome.new.self.guarded c.submit_turn-outcome.ensures.submits in
    let step : BatchStep = record { before = c.of-before.result; left = c.of.result } in
    let took : submitted_in step ≡ messages_of f.0 = noted step xs ys f.0 (λ j. (c.of-before.ensures j).items) (λ j. (c.of.ensures j).items) f.1 in
    let view : record { most = i.framer.most; bytes = i.framer.bytes; submitted = i.submitted.requests; pending = pending_of xs; is_stopped = i.is_stopped } ≡ c.args.self.now = c.self.view_is in
    let submitted : c.after-self-inside.result.requests ≡ c.args.self.now.submitted ++ messages_of f.0 =
    c.after-self-inside.ensures ∙ ap (λ ds. i.submitted.requests ++ ds) took ∙ ap (λ (x : Inbox). x.submitted ++ messages_of f.0) view in (
      f.0,
      sym (ap (λ (x : Inbox). x.pending) view) ∙ f.1,
      λ j. let n : Inbox = record { most = (view j).most; bytes = (view j).bytes; submitted = submitted j; pending = pending_of ys; is_stopped = (view j).is_stopped } in n,
    )

pub returns-clause-submits : goal.returns-clause-submits
returns-clause-submits g c =
    let i = c.self.inside in
    let xs : List Submission = i.batch.items in
    let ys : List Submission = c.submit_turn-outcome.new.batch.items in
    let s : ℕ = c.args.seat.now.session in
    let now : ℕ = c.args.now in
    let r : Result Bool EventRefusal = c.submit_turn-outcome.result.owes in
    let before : Guarded = c.args.hub.now.guarded in
    let after : Guarded = c.submit_turn-outcome.new.self.guarded in
    let all : events_of s now xs ≡ events_at s now c.args.self.now.pending = events_are s now xs ∙ ap (λ (x : Inbox). events_at s now x.pending) c.self.view_is in
    subst (λ (es : List Event). Submits r s es (events_at s now (pending_of ys)) before after) all
    (subst (λ (es : List Event). Submits r s (events_of s now xs) es before after) (events_are s now ys) c.submit_turn-outcome.ensures.submits)
