use Rattle.std.proofs.Common.{rules, ◌≡◌, ℕ, ◌+◌, ◌-◌, length, Bool, List, Ok, Err, ap, subst, arith}
use Rattle.std.specs.Prelude.{Result}
use Rattle.odb_core.specs.declared.refused.EventRefusal.{EventRefusal}
use Rattle.odb_hub.specs.Batch.{Submits, TakesUpTo}
use Rattle.odb_hub.specs.Counted.{Counted, Seat, submits}
use Rattle.odb_hub.specs.Guarded.{Guarded}
use Rattle.odb_hub.specs.Represented.Submission.{events_of}
use Rattle.odb_hub.specs.declared.submission.Submission.{Submission}
use Rattle.odb_hub.proofs.Counting.{batch_counted}
use Rattle.odb_hub.proofs.OwnRounds.{own_counted}
use Rattle.odb_hub.proofs.counted.Counted.submit_turn.Goals.{in-Ok, in-Err}
use Rattle.odb_hub.proofs.counted.Counted.submit_turn.Goals as goal

abbrev Submitted : Result Bool EventRefusal → ℕ → ℕ → List Submission → List Submission → Guarded → Guarded → Type 0
Submitted r s now xs ys old new = Submits r s (events_of s now xs) (events_of s now ys) old new

pub invariant_of-self : goal.invariant_of-self
invariant_of-self g c =
    let i = c.self.inside in
    let xs = c.args.batch.now.items in
    let ys = c.submit_turn-submitted.new.batch.items in
    let mid = c.submit_turn-submitted.new.self in
    let total = c.add.new.self.total in
    let s : ℕ = c.seat.inside.session in
    let taken : TakesUpTo (events_of s c.args.now xs) (events_of s c.args.now ys) i.state mid = c.submit_turn-submitted.ensures.taken in
    let grown : submits mid.events ≡ submits i.state.events + (length xs - length ys) = batch_counted s c.args.now xs ys i.state mid taken in
    let answered : total ≡ i.book.total + (length xs - length ys) = search rules in
    let before = c.self.invariant.0 in
    let counts : total ≡ i.before_base.value.total + submits mid.events = omega (arith, grown, answered, before) in
    (own_counted s mid c.rounds_for-given.new.self total i.before_base.value.total counts c.rounds_for-given.ensures.rounds, c.self.invariant.1)

pub returns-clause-submits : goal.returns-clause-submits
returns-clause-submits g c =
    let s : ℕ = c.seat.inside.session in
    let xs = c.args.batch.now.items in
    let ys = c.submit_turn-submitted.new.batch.items in
    let mid : Guarded = c.submit_turn-submitted.new.self in
    let new : Guarded = c.rounds_for-given.new.self in
    let taken : TakesUpTo (events_of s c.args.now xs) (events_of s c.args.now ys) c.self.inside.state mid = c.submit_turn-submitted.ensures.taken in
    let same_seat : s ≡ c.args.seat.now.session = ap (λ (x : Seat). x.session) c.seat.view_is in
    let same_kept : c.self.inside.state ≡ c.args.self.now.guarded = ap (λ (x : Counted). x.guarded) c.self.view_is in
    elim c.match-submitted.branch [
      | in-Ok w ↦ rw (w.result-is) (
          let r : Result Bool EventRefusal = Ok w.owes.result in
          subst (λ q. Submitted r q c.args.now xs ys c.args.self.now.guarded new) same_seat
          (subst (λ (k : Guarded). Submitted r s c.args.now xs ys k new) same_kept (mid, taken, tt, c.rounds_for-given.ensures.rounds)))
      | in-Err w ↦ rw (w.result-is) (
          let r : Result Bool EventRefusal = Err w.in-Err.why in
          subst (λ q. Submitted r q c.args.now xs ys c.args.self.now.guarded new) same_seat
          (subst (λ (k : Guarded). Submitted r s c.args.now xs ys k new) same_kept (mid, taken, search rules, c.rounds_for-given.ensures.rounds)))
    ]
