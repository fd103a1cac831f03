use Rattle.std.proofs.Common.{rules, ◌≡◌, ℕ, ◌-◌, ◌<◌, ◌≤◌, Bool, List, ◌++◌, drop, take, length, sym, ap, subst, ◌∙◌, append-nil, arith, take-append-drop}
use Rattle.std.specs.Prelude.{Result}
use Rattle.serde_json.specs.Data.{Data}
use Rattle.odb_core.specs.declared.refused.EventRefusal.{EventRefusal}
use Rattle.odb_service.specs.Run.{Event}
use Rattle.odb_hub.specs.Batch.{Submits}
use Rattle.odb_hub.specs.Inbox.{Inbox, IsInOrder, Pending, events_at, messages_of}
use Rattle.odb_hub.specs.Guarded.{Guarded}
use Rattle.odb_hub.specs.Represented.Inbox.{pending_of, submitted_in}
use Rattle.odb_hub.specs.Represented.Submission.{events_of}
use Rattle.odb_hub.specs.declared.submission.Submission.{Submission}
use Rattle.odb_hub.specs.declared.submitted.BatchStep.{BatchStep}
use Rattle.odb_hub.proofs.Inboxes.{all_kept, events_are, length_pending, moved_on, none_dropped, noted, parts_pending, run_first, run_rest, run_taken, some_others, turn_front}
use Rattle.odb_hub.proofs.inbox.Inbox.submit_run.Goals as goal

abbrev Fronts : List Submission → List Submission → Type 0
Fronts xs ys = (front : List Pending) × (pending_of xs ≡ front ++ pending_of ys)

pub returns-then-others-eq0-clause-submits : goal.returns-then-others-eq0-clause-submits
returns-then-others-eq0-clause-submits g c =
    let ps : List Pending = c.args.self.now.pending in
    let left : List Pending = c.submit_turn.new.self.pending in
    let s : ℕ = c.args.seat.now.session in
    let r : Result Bool EventRefusal = c.submit_turn.result.owes in
    let others : c.saturating_sub-others.result ≡ length c.self.inside.batch.items - c.args.most = search rules in
    let zero : c.saturating_sub-others.result ≡ 0 = c.if-others-eq0.true in
    let long : length ps ≡ length c.self.inside.batch.items = ap (λ (x : Inbox). length x.pending) (sym c.self.view_is) ∙ length_pending c.self.inside.batch.items in
    let low : length ps ≤ c.args.most = omega (arith, others, zero, long) in (
      left,
      sym (ap (λ qs. left ++ qs) (none_dropped ps c.args.most low) ∙ append-nil left),
      subst (λ (qs : List Pending). Submits r s (events_at s c.args.now qs) (events_at s c.args.now left) c.args.hub.now.guarded c.submit_turn.new.hub.guarded) (sym (all_kept ps c.args.most low)) c.submit_turn.ensures.submits,
    )

pub invariant_of-self-2 : goal.invariant_of-self-2
invariant_of-self-2 g c =
    let i = c.self.inside in
    let n : ℕ = c.saturating_sub-others.result in
    let xs : List Submission = i.batch.items in
    let rest : List Submission = c.split_off.new.self.items in
    let run : List Submission = c.in_ok-run.run'.items in
    let left : List Submission = c.submit_turn-outcome.new.batch.items in
    let ys : List Submission = c.append.new.self.items in
    let rest_is : rest ≡ take n xs = search rules in
    let run_is : run ≡ drop n xs = search rules in
    let whole : ys ≡ rest ++ left = search rules in
    let f : Fronts run left = turn_front c.submit_turn-outcome.result.owes c.args.seat.now.session c.args.now run left c.args.hub.now.guarded c.submit_turn-outcome.new.self.guarded c.submit_turn-outcome.ensures.submits in
    let parts : rest ++ run ≡ xs = (λ j. rest_is j ++ run_is j) ∙ take-append-drop n xs in
    let e : pending_of xs ≡ f.0 ++ pending_of ys = ap pending_of (sym parts) ∙ run_taken rest run left f.0 f.1 ∙ ap (λ zs. f.0 ++ pending_of zs) (sym whole) in
    let step : BatchStep = record { before = c.of-before.result; left = c.of-left.result } in
    let took : submitted_in step ≡ messages_of f.0 = noted step xs ys f.0 (λ j. (c.of-before.ensures j).items) (λ j. (c.of-left.ensures j).items) e in
    let submitted : c.after-self-inside.result.requests ≡ i.submitted.requests ++ messages_of f.0 = c.after-self-inside.ensures ∙ ap (λ ds. i.submitted.requests ++ ds) took in
    let old : Inbox = record { most = i.framer.most; bytes = i.framer.bytes; submitted = i.submitted.requests; pending = pending_of xs; is_stopped = i.is_stopped } in
    (subst (λ ds. IsInOrder (record old { submitted = ds; pending = pending_of ys })) (sym submitted) (moved_on old f.0 (pending_of ys) e c.self.invariant.0), c.self.invariant.1)

pub returns-clause-order : goal.returns-clause-order
returns-clause-order g c =
    let i = c.self.inside in
    let n : ℕ = c.saturating_sub-others.result in
    let xs : List Submission = i.batch.items in
    let rest : List Submission = c.split_off.new.self.items in
    let run : List Submission = c.in_ok-run.run'.items in
    let left : List Submission = c.submit_turn-outcome.new.batch.items in
    let ys : List Submission = c.append.new.self.items in
    let rest_is : rest ≡ take n xs = search rules in
    let run_is : run ≡ drop n xs = search rules in
    let whole : ys ≡ rest ++ left = search rules in
    let f : Fronts run left = turn_front c.submit_turn-outcome.result.owes c.args.seat.now.session c.args.now run left c.args.hub.now.guarded c.submit_turn-outcome.new.self.guarded c.submit_turn-outcome.ensures.submits in
    let parts : rest ++ run ≡ xs = (λ j. rest_is j ++ run_is j) ∙ take-append-drop n xs in
    let e : pending_of xs ≡ f.0 ++ pending_of ys = ap pending_of (sym parts) ∙ run_taken rest run left f.0 f.1 ∙ ap (λ zs. f.0 ++ pending_of zs) (sym whole) in
    let step : BatchStep = record { before = c.of-before.result; left = c.of-left.result } in
    let took : submitted_in step ≡ messages_of f.0 = noted step xs ys f.0 (λ j. (c.of-before.ensures j).items) (λ j. (c.of-left.ensures j).items) e in
    let view : record { most = i.framer.most; bytes = i.framer.bytes; submitted = i.submitted.requests; pending = pending_of xs; is_stopped = i.is_stopped } ≡ c.args.self.now = c.self.view_is in
    let submitted : c.after-self-inside.result.requests ≡ c.args.self.now.submitted ++ messages_of f.0 =
    c.after-self-inside.ensures ∙ ap (λ ds. i.submitted.requests ++ ds) took ∙ ap (λ (x : Inbox). x.submitted ++ messages_of f.0) view in (
      f.0,
      sym (ap (λ (x : Inbox). x.pending) view) ∙ e,
      λ j. let m : Inbox = record { most = (view j).most; bytes = (view j).bytes; submitted = submitted j; pending = pending_of ys; is_stopped = (view j).is_stopped } in m,
    )

pub returns-clause-submits : goal.returns-clause-submits
returns-clause-submits g c =
    let n : ℕ = c.saturating_sub-others.result in
    let most : ℕ = c.args.most in
    let xs : List Submission = c.self.inside.batch.items in
    let rest : List Submission = c.split_off.new.self.items in
    let run : List Submission = c.in_ok-run.run'.items in
    let left : List Submission = c.submit_turn-outcome.new.batch.items in
    let ys : List Submission = c.append.new.self.items in
    let rest_is : rest ≡ take n xs = search rules in
    let run_is : run ≡ drop n xs = search rules in
    let whole : ys ≡ rest ++ left = search rules in
    let s : ℕ = c.args.seat.now.session in
    let now : ℕ = c.args.now in
    let r : Result Bool EventRefusal = c.submit_turn-outcome.result.owes in
    let before : Guarded = c.args.hub.now.guarded in
    let after : Guarded = c.submit_turn-outcome.new.self.guarded in
    let others : n ≡ length xs - most = search rules in
    let some : 0 < n = some_others n c.if-others-eq0.false in
    let behind : pending_of rest ≡ drop most c.args.self.now.pending = ap pending_of rest_is ∙ sym (run_rest xs n most others some) ∙ ap (λ (x : Inbox). drop most x.pending) c.self.view_is in
    let first : pending_of run ≡ take most c.args.self.now.pending = ap pending_of run_is ∙ sym (run_first xs n most others some) ∙ ap (λ (x : Inbox). take most x.pending) c.self.view_is in
    let all : events_of s now run ≡ events_at s now (take most c.args.self.now.pending) = events_are s now run ∙ ap (events_at s now) first in (
      pending_of left,
      ap pending_of whole ∙ parts_pending rest left ∙ ap (λ ps. pending_of left ++ ps) behind,
      subst (λ (es : List Event). Submits r s es (events_at s now (pending_of left)) before after) all
          (subst (λ (es : List Event). Submits r s (events_of s now run) es before after) (events_are s now left) c.submit_turn-outcome.ensures.submits),
    )
