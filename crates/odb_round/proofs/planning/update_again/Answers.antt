use Rattle.std.proofs.Common.{option_map, ap, ◌∙◌, ◌≡◌, subst, sym}
use Rattle.std.proofs.lemmas.Result.{IfOk-weaker}
use Rattle.odb_monitor.specs.Job.{Job, updates_of}
use Rattle.odb_service.specs.Session.{refilter}
use Rattle.odb_sessions.specs.Composed.{asked_of, later_job}
use Rattle.odb_sessions.specs.Filtered.{all_parts_again}
use Rattle.odb_round.specs.Jobs.{certainly}
use Rattle.odb_sessions.specs.Marked.{MarkedMonitor}
use Rattle.odb_sessions.specs.Represented.Under.{filters_in}
use Rattle.odb_round.specs.Sending.{notifying, sent_with}
use Rattle.odb_round.proofs.Updates.{sent_again}
use Rattle.odb_round.proofs.planning.update_again.Goals as goal
use Rattle.odb_round.specs.Represented.Served.{IsServed}
use Rattle.odb_sessions.specs.Book.{revision_at}

pub returns-clause-text : goal.returns-clause-text
returns-clause-text c =
    let db = c.args.wanted.now.chains.db in
    let revision = revision_at c.args.wanted.now.chains c.args.wanted.now.recent in
    let x : MarkedMonitor = c.args.monitor.now in
    let fs = filters_in c.args.under in
    let gs = filters_in c.args.told in
    let job : Job = later_job x.notation (all_parts_again db gs x.tables (refilter fs (asked_of x.tables))) in
    IfOk-weaker c.notification.result _ _
    (λ message told. λ h all kept. told all job (c.in_ok-place.ensures.place all kept)
    ∙ ap (option_map certainly) (ap (λ v. option_map (sent_with (notifying v x job)) (updates_of job)) c.number-number.ensures ∙ sent_again h revision gs fs x))
    c.notification.ensures.text

pub returns-clause-jobs : goal.returns-clause-jobs
returns-clause-jobs c = c.want.ensures.jobs

pub returns-clause-marks : goal.returns-clause-marks
returns-clause-marks c =
    IfOk-weaker c.notification.result _ _
    (λ message same. subst (IsServed c.args.wanted.now.likenesses c.want.new.self.likenesses (λ h. h ≡ c.args.monitor.now)) (sym same) c.in_ok-place.ensures.marks)
    c.notification.ensures.place
