use Rattle.std.proofs.Common.{List, is_some, option_map, sym, ap, ◌∙◌, subst}
use Rattle.odb_monitor.specs.Job.{Job}
use Rattle.odb_service.specs.Server.{served_by}
use Rattle.odb_round.specs.Jobs.{certainly}
use Rattle.odb_round.specs.Planned.{due}
use Rattle.odb_round.specs.Represented.Sending.{sending_under}
use Rattle.odb_sessions.specs.Represented.Under.{item_in}
use Rattle.odb_round.specs.Sending.{due_sending}
use Rattle.odb_round.proofs.Places.{keeps_itself, told_sending}
use Rattle.odb_round.proofs.Rests.{is_mapped}
use Rattle.odb_round.proofs.foreseen.Planner.bring.Goals as goal
use Rattle.odb_round.specs.Represented.Served.{IsServed}
use Rattle.odb_round.specs.ByMarks.{IsDueTo}
use Rattle.odb_sessions.specs.Book.{revision_at}

pub returns-clause-comes : goal.returns-clause-comes
returns-clause-comes c = λ s.
    let db = c.args.self.now.chains.db in
    let revision = revision_at c.args.self.now.chains c.args.self.now.recent in
    let js : List Job = c.pass.new.self.jobs in
    c.composed.ensures.comes ∙ sym (is_mapped (sending_under js) c.in_ok-message.message)
    ∙ ap is_some (c.in_ok-message.ensures.text s js (keeps_itself js))
    ∙ is_mapped certainly (option_map (due_sending (served_by s) revision) (due (served_by s) db (item_in c.args.id.now c.args.under) c.args.self.now.monitors))
    ∙ is_mapped (due_sending (served_by s) revision) (due (served_by s) db (item_in c.args.id.now c.args.under) c.args.self.now.monitors)

pub returns-clause-text : goal.returns-clause-text
returns-clause-text c = λ s last all kept. c.composed.ensures.text all last ∙ told_sending (sending_under all) c.in_ok-message.message _ (c.in_ok-message.ensures.text s all kept)

pub returns-clause-jobs : goal.returns-clause-jobs
returns-clause-jobs c = c.pass.ensures.jobs

pub returns-clause-marks : goal.returns-clause-marks
returns-clause-marks c = λ s.
    let now = c.args.self.now in
    subst (IsServed now.likenesses c.pass.new.self.likenesses (IsDueTo (due (served_by s) now.chains.db (item_in c.args.id.now c.args.under) now.monitors) now.marked)) (sym c.composed.ensures.place) (c.in_ok-message.ensures.marks s)

pub returns-clause-marked : goal.returns-clause-marked
returns-clause-marked c = c.pass.ensures.marked
