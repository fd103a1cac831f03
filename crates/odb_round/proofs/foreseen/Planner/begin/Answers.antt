use Rattle.std.proofs.Common.{List, Some, subst, sym, ap, ◌∙◌, ◌≡◌}
use Rattle.odb_chain.specs.Chains.{Chains}
use Rattle.odb_monitor.specs.Job.{Job}
use Rattle.odb_sessions.specs.Composed.{asked_of}
use Rattle.odb_round.specs.Foreseen.{AreAheadOf, Foreseen, marked_ahead, marks_ahead}
use Rattle.odb_sessions.specs.Marked.{marks_in, watch_of}
use Rattle.odb_round.specs.Jobs.{Keeps}
use Rattle.odb_round.specs.OfSchema.{AreOfSchema}
use Rattle.odb_round.specs.Planned.{first_due}
use Rattle.odb_sessions.specs.Tied.{AreLive}
use Rattle.odb_round.specs.Sending.{due_sending}
use Rattle.odb_round.proofs.foreseen.Planner.begin.Goals as goal
use Rattle.odb_sessions.specs.Book.{revision_at}
use Rattle.odb_round.specs.Represented.Served.{IsServed, place_coming}
use Rattle.odb_round.specs.Known.{AreKnownAs, Basis}

pub first_reply-requires-clause-live : goal.first_reply-requires-clause-live
first_reply-requires-clause-live c = subst (λ (f : Foreseen). AreLive f.chains (marks_in c.args.start.now.monitor)) (sym c.self.view_is) c.requires.live

pub first_reply-requires-clause-of : goal.first_reply-requires-clause-of
first_reply-requires-clause-of c = subst (λ (f : Foreseen). AreOfSchema f.basis.schema (asked_of c.args.start.now.monitor.tables)) (sym c.self.view_is) c.requires.of

pub invariant_of-self : goal.invariant_of-self
invariant_of-self c = (
  subst (λ (k : Chains). AreLive k (marks_ahead c.self.inside.monitors.items)) (sym c.first_reply.ensures.chains) c.self.invariant.0,
  subst (λ (g : Basis). AreAheadOf g.schema c.self.inside.monitors.items) (sym c.first_reply.ensures.basis) c.self.invariant.1,
  subst (λ (g : Basis). AreKnownAs g.sessions c.self.inside.watch (marked_ahead c.self.inside.monitors.items)) (sym c.first_reply.ensures.basis) c.self.invariant.2,
)

pub invariant_of-self-2 : goal.invariant_of-self-2
invariant_of-self-2 c = (
  subst (λ (k : Chains). AreLive k (marks_ahead c.self.inside.monitors.items)) (sym c.first_reply.ensures.chains) c.self.invariant.0,
  subst (λ (g : Basis). AreAheadOf g.schema c.self.inside.monitors.items) (sym c.first_reply.ensures.basis) c.self.invariant.1,
  subst (λ (g : Basis). AreKnownAs g.sessions c.self.inside.watch (marked_ahead c.self.inside.monitors.items)) (sym c.first_reply.ensures.basis) c.self.invariant.2,
)

pub returns-clause-text : goal.returns-clause-text
returns-clause-text c = λ h last all kept.
    c.composed.ensures.text all last ∙ c.in_ok-message.ensures.text h all kept
    ∙ ap (λ (f : Foreseen). Some (due_sending h (revision_at f.chains f.recent) (first_due c.args.start.now.origin (watch_of c.args.start.now.monitor)))) c.self.view_is

pub returns-clause-jobs : goal.returns-clause-jobs
returns-clause-jobs c = subst (λ (js : List Job). Keeps js c.first_reply.new.wanted.jobs) (ap (λ (f : Foreseen). f.jobs) c.self.view_is) c.first_reply.ensures.jobs

pub returns-in_err-message-clause-jobs : goal.returns-in_err-message-clause-jobs
returns-in_err-message-clause-jobs c = subst (λ (js : List Job). Keeps js c.first_reply.new.wanted.jobs) (ap (λ (f : Foreseen). f.jobs) c.self.view_is) c.first_reply.ensures.jobs

pub returns-clause-marks : goal.returns-clause-marks
returns-clause-marks c =
    subst (λ (f : Foreseen). IsServed f.likenesses c.first_reply.new.wanted.likenesses (λ h. h ≡ c.args.start.now.monitor) (place_coming c.composed.result)) c.self.view_is
    (subst (IsServed c.self.inside.wanted.likenesses c.first_reply.new.wanted.likenesses (λ h. h ≡ c.args.start.now.monitor)) (sym c.composed.ensures.place) c.in_ok-message.ensures.marks)

pub returns-clause-marked : goal.returns-clause-marked
returns-clause-marked c = ap (λ (f : Foreseen). f.marked) c.self.view_is

pub returns-in_err-message-clause-marked : goal.returns-in_err-message-clause-marked
returns-in_err-message-clause-marked c = ap (λ (f : Foreseen). f.marked) c.self.view_is
