use Rattle.std.proofs.Common.{rules, ◌≡◌, true, option_map, subst, sym, ap, ◌∙◌}
use Rattle.std.proofs.lemmas.Result.{IfOk-weaker}
use Rattle.odb_chain.specs.Chains.{Chains}
use Rattle.odb_monitor.specs.Job.{Job, updates_of}
use Rattle.odb_sessions.specs.Composed.{AreNow, owed_job}
use Rattle.odb_round.specs.Jobs.{certainly}
use Rattle.odb_sessions.specs.Marked.{MarkedMonitor, marks_in}
use Rattle.odb_sessions.specs.Tied.{AreLive}
use Rattle.odb_round.proofs.Places.{keeps_itself}
use Rattle.odb_round.proofs.Quiet.{quiet}
use Rattle.odb_round.specs.Sending.{notifying, sent_with}
use Rattle.odb_round.proofs.Updates.{sent_asked}
use Rattle.odb_round.proofs.planning.update_asked.Goals as goal
use Rattle.odb_round.specs.Represented.Served.{IsServed}
use Rattle.odb_sessions.specs.Book.{revision_at}

pub is_told-requires : goal.is_told-requires
is_told-requires c = subst (λ (k : Chains). AreLive k (marks_in c.args.monitor.now)) (sym c.chains.ensures) c.requires.live

pub returns-then-is_told-clause-text : goal.returns-then-is_told-clause-text
returns-then-is_told-clause-text c = λ h all kept.
    let x : MarkedMonitor = c.args.monitor.now in
    let now : c.is_told.result ≡ true = search rules in
    ap (option_map certainly) (quiet h (revision_at c.args.wanted.now.chains c.args.wanted.now.recent) x (subst (λ (k : Chains). AreNow k.db x.tables) c.chains.ensures (c.is_told.ensures now)))

pub returns-then-is_told-clause-jobs : goal.returns-then-is_told-clause-jobs
returns-then-is_told-clause-jobs c = keeps_itself c.args.wanted.now.jobs

pub returns-clause-text : goal.returns-clause-text
returns-clause-text c =
    let db = c.args.wanted.now.chains.db in
    let revision = revision_at c.args.wanted.now.chains c.args.wanted.now.recent in
    let x : MarkedMonitor = c.args.monitor.now in
    let job : Job = owed_job db x in
    IfOk-weaker c.notification.result _ _
    (λ message told. λ h all kept. told all job (c.in_ok-place.ensures.place all kept)
    ∙ ap (option_map certainly) (ap (λ v. option_map (sent_with (notifying v x job)) (updates_of job)) c.number-number.ensures ∙ sent_asked h revision x))
    c.notification.ensures.text

pub returns-clause-jobs : goal.returns-clause-jobs
returns-clause-jobs c = c.updates.ensures.jobs

pub returns-clause-marks : goal.returns-clause-marks
returns-clause-marks c =
    IfOk-weaker c.notification.result _ _
    (λ message same. subst (IsServed c.args.wanted.now.likenesses c.updates.new.self.likenesses (λ h. h ≡ c.args.monitor.now)) (sym same) c.in_ok-place.ensures.marks)
    c.notification.ensures.place

pub returns-then-is_told-clause-marks : goal.returns-then-is_told-clause-marks
returns-then-is_told-clause-marks c = (keeps_itself c.args.wanted.now.likenesses, tt)
