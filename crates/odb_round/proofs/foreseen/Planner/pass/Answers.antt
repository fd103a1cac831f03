use Rattle.std.proofs.Common.{◌≡◌, IfOk, List, OnOk, map, option_map, subst, sym, ap, ◌∙◌}
use Rattle.odb_chain.specs.Chains.{Chains}
use Rattle.odb_monitor.specs.Job.{Job}
use Rattle.odb_service.specs.Server.{served_by}
use Rattle.odb_service.specs.Session.{leaves}
use Rattle.odb_round.specs.Foreseen.{AreAheadOf, Foreseen, marked_ahead, marks_ahead, seen_ahead}
use Rattle.odb_round.specs.Jobs.{Keeps}
use Rattle.odb_round.specs.Planned.{due}
use Rattle.odb_round.specs.Represented.Sending.{Tells}
use Rattle.odb_sessions.specs.Represented.Under.{item_in}
use Rattle.odb_sessions.specs.Tied.{AreLive}
use Rattle.odb_round.specs.Sending.{due_sending}
use Rattle.odb_round.proofs.foreseen.Planner.pass.Goals as goal
use Rattle.odb_sessions.specs.Book.{revision_at}
use Rattle.odb_round.specs.Known.{AreKnownAs, Basis}
use Rattle.odb_round.specs.Represented.Served.{IsServed, place_told}
use Rattle.odb_round.specs.ByMarks.{IsDueTo}
use Rattle.odb_schema.specs.Schema.{Schema}

pub invariant_of-self : goal.invariant_of-self
invariant_of-self c = (
  subst (λ (k : Chains). AreLive k (marks_ahead c.pass.new.monitors.items)) (sym c.pass.ensures.chains) c.pass.ensures.live,
  subst (λ (g : Basis). AreAheadOf g.schema c.pass.new.monitors.items) (sym c.pass.ensures.basis) c.pass.ensures.of,
  subst (λ (g : Basis). AreKnownAs g.sessions c.self.inside.watch (marked_ahead c.pass.new.monitors.items)) (sym c.pass.ensures.basis) (subst (AreKnownAs c.self.inside.wanted.basis.sessions c.self.inside.watch) (sym c.pass.ensures.marked) c.self.invariant.2),
)

pub returns-clause-text : goal.returns-clause-text
returns-clause-text c =
    subst (λ (f : Foreseen). IfOk c.pass.result (λ message. (s : Schema) → Tells c.pass.new.wanted.jobs message
    (option_map (due_sending (served_by s) (revision_at f.chains f.recent)) (due (served_by s) f.chains.db (item_in c.args.id.now c.args.under) f.monitors))))
    c.self.view_is c.pass.ensures.text

pub returns-clause-passed : goal.returns-clause-passed
returns-clause-passed c =
    let db = c.self.inside.wanted.chains.db in
    let now : Foreseen = c.args.self.now in
    let passed : OnOk c.pass.result ((s : Schema) → map (seen_ahead db) c.pass.new.monitors.items ≡ leaves (served_by s) now.chains.db (item_in c.args.id.now c.args.under) now.monitors) =
    subst (λ (f : Foreseen). OnOk c.pass.result ((s : Schema) → map (seen_ahead db) c.pass.new.monitors.items
    ≡ leaves (served_by s) f.chains.db (item_in c.args.id.now c.args.under) f.monitors))
    c.self.view_is c.pass.ensures.passed
    in
    subst (λ (k : Chains). OnOk c.pass.result ((s : Schema) → map (seen_ahead k.db) c.pass.new.monitors.items ≡ leaves (served_by s) now.chains.db (item_in c.args.id.now c.args.under) now.monitors))
    (sym c.pass.ensures.chains) passed

pub returns-clause-jobs : goal.returns-clause-jobs
returns-clause-jobs c = subst (λ (js : List Job). Keeps js c.pass.new.wanted.jobs) (ap (λ (f : Foreseen). f.jobs) c.self.view_is) c.pass.ensures.jobs

pub returns-clause-marks : goal.returns-clause-marks
returns-clause-marks c =
    subst (λ (f : Foreseen). IfOk c.pass.result (λ message. (s : Schema) → IsServed f.likenesses c.pass.new.wanted.likenesses
    (IsDueTo (due (served_by s) f.chains.db (item_in c.args.id.now c.args.under) f.monitors) f.marked) (place_told message)))
    c.self.view_is c.pass.ensures.marks

pub returns-clause-marked : goal.returns-clause-marked
returns-clause-marked c = c.pass.ensures.marked ∙ ap (λ (f : Foreseen). f.marked) c.self.view_is
