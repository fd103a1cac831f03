use Rattle.std.proofs.Common.{rules, ◌≡◌, List, map, option_map, subst, sym, ap, ◌∙◌}
use Rattle.std.proofs.lemmas.Result.{IfOk-weaker}
use Rattle.odb_chain.specs.Chains.{Chains}
use Rattle.odb_monitor.specs.Job.{Job}
use Rattle.odb_round.specs.Foreseen.{Ahead, AreAheadOf, Foreseen, marked_ahead, marks_ahead, seen_ahead}
use Rattle.odb_round.specs.Jobs.{Keeps, certainly}
use Rattle.odb_round.specs.Planned.{plan_monitors}
use Rattle.odb_sessions.specs.Tied.{AreLive}
use Rattle.odb_round.specs.Sending.{due_sending}
use Rattle.odb_round.proofs.foreseen.Planner.due.Goals as goal
use Rattle.odb_sessions.specs.Book.{revision_at}
use Rattle.odb_sessions.specs.Alike.{Likeness}
use Rattle.odb_round.specs.Represented.Served.{IsServed, place_told}
use Rattle.odb_round.specs.ByMarks.{IsDueTo}
use Rattle.odb_round.specs.Known.{AreKnownAs, Basis}

pub invariant_of-self : goal.invariant_of-self
invariant_of-self c = (
  subst (λ (k : Chains). AreLive k (marks_ahead c.self.inside.monitors.items)) (sym c.due_of.ensures.chains) c.self.invariant.0,
  subst (λ (g : Basis). AreAheadOf g.schema c.self.inside.monitors.items) (sym c.due_of.ensures.basis) c.self.invariant.1,
  subst (λ (g : Basis). AreKnownAs g.sessions c.self.inside.watch (marked_ahead c.self.inside.monitors.items)) (sym c.due_of.ensures.basis) c.self.invariant.2,
)

pub returns-clause-monitors : goal.returns-clause-monitors
returns-clause-monitors c =
    let db = c.self.inside.wanted.chains.db in
    let slice : c.as_slice.result.now ≡ c.self.inside.monitors.items = search rules in
    IfOk-weaker c.due_of.result _ _
    (λ found e. λ h. e h ∙ ap (λ (xs : List Ahead). (plan_monitors h db (map (seen_ahead db) xs)).monitors) slice
    ∙ ap (λ (f : Foreseen). (plan_monitors h f.chains.db f.monitors).monitors) c.self.view_is)
    c.due_of.ensures.monitors

pub returns-clause-text : goal.returns-clause-text
returns-clause-text c =
    let db = c.self.inside.wanted.chains.db in
    let revision = revision_at c.self.inside.wanted.chains c.self.inside.wanted.recent in
    let slice : c.as_slice.result.now ≡ c.self.inside.monitors.items = search rules in
    IfOk-weaker c.due_of.result _ _
    (λ found e. λ h all kept. e h all kept
    ∙ ap (option_map certainly) (ap (λ (xs : List Ahead). option_map (due_sending h revision) (plan_monitors h db (map (seen_ahead db) xs)).out) slice
    ∙ ap (λ (f : Foreseen). option_map (due_sending h (revision_at f.chains f.recent)) (plan_monitors h f.chains.db f.monitors).out) c.self.view_is))
    c.due_of.ensures.text

pub returns-clause-jobs : goal.returns-clause-jobs
returns-clause-jobs c = subst (λ (js : List Job). Keeps js c.due_of.new.wanted.jobs) (ap (λ (f : Foreseen). f.jobs) c.self.view_is) c.due_of.ensures.jobs

pub returns-clause-marks : goal.returns-clause-marks
returns-clause-marks c =
    let db = c.self.inside.wanted.chains.db in
    let old : List Likeness = c.self.inside.wanted.likenesses in
    let new : List Likeness = c.due_of.new.wanted.likenesses in
    let slice : c.as_slice.result.now ≡ c.self.inside.monitors.items = search rules in
    IfOk-weaker c.due_of.result _ _
    (λ found e. λ h. subst (λ (f : Foreseen). IsServed f.likenesses new (IsDueTo (plan_monitors h f.chains.db f.monitors).out f.marked) (place_told found.message)) c.self.view_is
    (subst (λ (xs : List Ahead). IsServed old new (IsDueTo (plan_monitors h db (map (seen_ahead db) xs)).out (marked_ahead xs)) (place_told found.message)) slice (e h)))
    c.due_of.ensures.marks

pub returns-clause-marked : goal.returns-clause-marked
returns-clause-marked c = ap (λ (f : Foreseen). f.marked) c.self.view_is
