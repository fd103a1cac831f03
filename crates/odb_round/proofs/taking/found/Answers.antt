use Rattle.std.proofs.Common.{true, take, Some, ap, ◌∙◌, ◌≡◌, subst, sym}
use Rattle.std.proofs.lemmas.Result.{IfOk-weaker}
use Rattle.odb_atoms.specs.Represented.Atom.{uuid_of}
use Rattle.odb_atoms.specs.Uuid.{Uuid}
use Rattle.odb_rpc.specs.Since.{since_result}
use Rattle.odb_schema.specs.Json.{Data}
use Rattle.odb_sessions.specs.Composed.{asked_of, resumed_job, resumed_updates}
use Rattle.odb_sessions.specs.Marked.{MarkedMonitor}
use Rattle.odb_round.specs.Sending.{replying, sent_with}
use Rattle.odb_round.proofs.NamedCommits.{resumed_composed}
use Rattle.odb_round.proofs.Places.{sent_by}
use Rattle.odb_round.specs.Represented.Served.{IsServed}
use Rattle.odb_round.proofs.taking.found.Goals as goal

pub returns-clause-text : goal.returns-clause-text
returns-clause-text c =
    let db = c.args.wanted.now.chains.db in
    let x : MarkedMonitor = c.args.start.now.monitor in
    let undos = take c.args.ago c.args.wanted.now.recent.undos in
    let job = resumed_job undos db x.notation (asked_of x.tables) in
    let updates : Data = resumed_updates undos db x.notation (asked_of x.tables) in
    let number : Uuid = uuid_of c.number-number.result in
    let text = (replying c.args.start.now.origin (since_result true number) job).text in
    IfOk-weaker c.numbered_reply.result _ _
    (λ message e. λ all kept.
    sent_by all message c.in_ok-place.place text job updates e (c.in_ok-place.ensures.place all kept) (resumed_composed undos db x.notation (asked_of x.tables))
    ∙ ap (λ n. Some (sent_with (replying c.args.start.now.origin (since_result true n) job) updates)) c.number-number.ensures)
    c.numbered_reply.ensures

pub returns-clause-jobs : goal.returns-clause-jobs
returns-clause-jobs c = c.resume.ensures.jobs

pub returns-clause-marks : goal.returns-clause-marks
returns-clause-marks c =
    IfOk-weaker c.numbered_reply.result _ _
    (λ message frame. subst (λ n. IsServed c.args.wanted.now.likenesses c.resume.new.self.likenesses (λ h. h ≡ c.args.start.now.monitor) (Some n)) (sym frame.0) c.in_ok-place.ensures.marks)
    c.numbered_reply.ensures
