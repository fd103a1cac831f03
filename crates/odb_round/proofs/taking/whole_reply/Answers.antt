use Rattle.std.proofs.Common.{◌≡◌, Some, subst, sym}
use Rattle.std.proofs.lemmas.Result.{IfOk-weaker}
use Rattle.odb_sessions.specs.Composed.{asked_of, first_job, first_updates}
use Rattle.odb_sessions.specs.Marked.{MarkedMonitor}
use Rattle.odb_round.specs.Sending.{replying}
use Rattle.odb_round.proofs.Composed.{first_composed}
use Rattle.odb_round.proofs.Places.{sent_by}
use Rattle.odb_round.specs.Represented.Served.{IsServed}
use Rattle.odb_round.proofs.taking.whole_reply.Goals as goal

pub returns-clause-text : goal.returns-clause-text
returns-clause-text c =
    let db = c.args.wanted.now.chains.db in
    let x : MarkedMonitor = c.args.start.now.monitor in
    let job = first_job db x.notation (asked_of x.tables) in
    let text = (replying c.args.start.now.origin (λ u. u) job).text in
    IfOk-weaker c.reply.result _ _
    (λ message e. λ all kept.
    sent_by all message c.in_ok-place.place text job (first_updates db x.notation (asked_of x.tables)) e (c.in_ok-place.ensures.place all kept) (first_composed db x.notation (asked_of x.tables)))
    c.reply.ensures

pub returns-clause-jobs : goal.returns-clause-jobs
returns-clause-jobs c = c.first_reply.ensures.jobs

pub returns-clause-marks : goal.returns-clause-marks
returns-clause-marks c =
    IfOk-weaker c.reply.result _ _
    (λ message frame. subst (λ n. IsServed c.args.wanted.now.likenesses c.first_reply.new.self.likenesses (λ h. h ≡ c.args.start.now.monitor) (Some n)) (sym frame.0) c.in_ok-place.ensures.marks)
    c.reply.ensures
