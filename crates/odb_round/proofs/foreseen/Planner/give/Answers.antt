use Rattle.std.proofs.Common.{rules, ◌≡◌, Some, is_some, option_map, sym, ap, ◌∙◌, ◌++◌}
use Rattle.std.proofs.lemmas.Result.{IfOk-weaker}
use Rattle.std.specs.Arc.{arc_value}
use Rattle.odb_service.specs.Server.{served_by}
use Rattle.odb_service.specs.Session as machine
use Rattle.odb_service.specs.Session.{leaves, shift, sync}
use Rattle.odb_round.specs.Planned.{due}
use Rattle.odb_sessions.specs.Represented.Item.{filters_of, marked_item_of}
use Rattle.odb_sessions.specs.declared.item.Item.{Item}
use Rattle.odb_sessions.specs.declared.item.Item.TheVariants as item
use Rattle.odb_round.specs.Sending.{due_sending}
use Rattle.odb_round.proofs.Leading.{seen_item}
use Rattle.odb_round.proofs.Places.{keeps_itself}
use Rattle.odb_round.proofs.foreseen.Planner.give.Goals as goal
use Rattle.odb_round.specs.Represented.Served.{place_coming}
use Rattle.odb_round.specs.ByMarks.{IsDueTo, monitors_due}
use Rattle.odb_round.proofs.Served.{served_beside, served_so, start_to}
use Rattle.odb_sessions.specs.Book.{revision_at}

pub returns-in-Start-clause-text : goal.returns-in-Start-clause-text
returns-in-Start-clause-text c =
    let db = c.args.self.now.chains.db in
    let revision = revision_at c.args.self.now.chains c.args.self.now.recent in
    let ms = c.args.self.now.monitors in
    let is : c.args.item.now ≡ item.Start c.in-Start.start = search rules in
    IfOk-weaker c.begin.result _ _
    (λ coming e. λ s all kept. e (served_by s) (Some (seen_item c.args.item.now)) all kept ∙ ap (λ (x : Item). option_map (due_sending (served_by s) revision) (due (served_by s) db (seen_item x) ms)) (sym is))
    c.begin.ensures.text

pub returns-in-Shift-clause-comes : goal.returns-in-Shift-clause-comes
returns-in-Shift-clause-comes c =
    let db = c.args.self.now.chains.db in
    let ms = c.args.self.now.monitors in
    let is : c.args.item.now ≡ item.Shift c.in-Shift.shift = search rules in
    let id : c.deref-in-Shift.result.now ≡ arc_value c.in-Shift.shift.id = search rules in
    let same : shift c.deref-in-Shift.result.now (filters_of c.in-Shift.shift.changes) ≡ seen_item c.args.item.now = (λ i. shift (id i) (filters_of c.in-Shift.shift.changes)) ∙ ap seen_item (sym is) in
    IfOk-weaker c.bring-in-Shift.result _ _ (λ coming e. λ s. e s ∙ ap (λ (j : machine.Item). is_some (due (served_by s) db j ms)) same) c.bring-in-Shift.ensures.comes

pub returns-in-Shift-clause-text : goal.returns-in-Shift-clause-text
returns-in-Shift-clause-text c =
    let db = c.args.self.now.chains.db in
    let revision = revision_at c.args.self.now.chains c.args.self.now.recent in
    let ms = c.args.self.now.monitors in
    let is : c.args.item.now ≡ item.Shift c.in-Shift.shift = search rules in
    let id : c.deref-in-Shift.result.now ≡ arc_value c.in-Shift.shift.id = search rules in
    let same : shift c.deref-in-Shift.result.now (filters_of c.in-Shift.shift.changes) ≡ seen_item c.args.item.now = (λ i. shift (id i) (filters_of c.in-Shift.shift.changes)) ∙ ap seen_item (sym is) in
    IfOk-weaker c.bring-in-Shift.result _ _
    (λ coming e. λ s all kept. e s (Some (seen_item c.args.item.now)) all kept ∙ ap (λ (j : machine.Item). option_map (due_sending (served_by s) revision) (due (served_by s) db j ms)) same)
    c.bring-in-Shift.ensures.text

pub returns-in-Shift-clause-passed : goal.returns-in-Shift-clause-passed
returns-in-Shift-clause-passed c =
    let db = c.args.self.now.chains.db in
    let ms = c.args.self.now.monitors in
    let is : c.args.item.now ≡ item.Shift c.in-Shift.shift = search rules in
    let id : c.deref-in-Shift.result.now ≡ arc_value c.in-Shift.shift.id = search rules in
    let same : shift c.deref-in-Shift.result.now (filters_of c.in-Shift.shift.changes) ≡ seen_item c.args.item.now = (λ i. shift (id i) (filters_of c.in-Shift.shift.changes)) ∙ ap seen_item (sym is) in
    IfOk-weaker c.bring-in-Shift.result _ _ (λ coming e. λ none s. e s ∙ ap (λ (j : machine.Item). leaves (served_by s) db j ms) same) c.bring-in-Shift.ensures.passed

pub returns-in-Say-clause-jobs : goal.returns-in-Say-clause-jobs
returns-in-Say-clause-jobs c = keeps_itself c.args.self.now.jobs

pub returns-in-Renamed-clause-jobs : goal.returns-in-Renamed-clause-jobs
returns-in-Renamed-clause-jobs c = keeps_itself c.args.self.now.jobs

pub returns-in-Stopped-clause-jobs : goal.returns-in-Stopped-clause-jobs
returns-in-Stopped-clause-jobs c = keeps_itself c.args.self.now.jobs

pub returns-in-Say-clause-marks : goal.returns-in-Say-clause-marks
returns-in-Say-clause-marks c = λ s. (keeps_itself c.args.self.now.likenesses, tt)

pub returns-in-Renamed-clause-marks : goal.returns-in-Renamed-clause-marks
returns-in-Renamed-clause-marks c = λ s. (keeps_itself c.args.self.now.likenesses, tt)

pub returns-in-Stopped-clause-marks : goal.returns-in-Stopped-clause-marks
returns-in-Stopped-clause-marks c = λ s. (keeps_itself c.args.self.now.likenesses, tt)

pub returns-in-Start-clause-marks : goal.returns-in-Start-clause-marks
returns-in-Start-clause-marks c =
    let now = c.args.self.now in
    let is : c.args.item.now ≡ item.Start c.in-Start.start = search rules in
    IfOk-weaker c.begin.result _ _
    (λ coming e. λ s. served_so now.likenesses c.begin.new.self.likenesses (λ h. h ≡ c.in-Start.start.monitor)
    (IsDueTo (due (served_by s) now.chains.db (seen_item c.args.item.now) now.monitors) (now.marked ++ monitors_due (marked_item_of c.args.item.now))) (place_coming coming)
    (λ h same. start_to s now.chains.db now.monitors now.marked c.args.item.now c.in-Start.start h is same) e)
    c.begin.ensures.marks

pub returns-in-Shift-clause-marks : goal.returns-in-Shift-clause-marks
returns-in-Shift-clause-marks c =
    let now = c.args.self.now in
    let is : c.args.item.now ≡ item.Shift c.in-Shift.shift = search rules in
    let id : c.deref-in-Shift.result.now ≡ arc_value c.in-Shift.shift.id = search rules in
    let same : shift c.deref-in-Shift.result.now (filters_of c.in-Shift.shift.changes) ≡ seen_item c.args.item.now = (λ i. shift (id i) (filters_of c.in-Shift.shift.changes)) ∙ ap seen_item (sym is) in
    IfOk-weaker c.bring-in-Shift.result _ _
    (λ coming e. λ s. served_beside now.likenesses c.bring-in-Shift.new.self.likenesses _ _ now.marked (monitors_due (marked_item_of c.args.item.now)) (place_coming coming) (ap (λ (j : machine.Item). due (served_by s) now.chains.db j now.monitors) same) (e s))
    c.bring-in-Shift.ensures.marks

pub returns-in-Sync-clause-marks : goal.returns-in-Sync-clause-marks
returns-in-Sync-clause-marks c =
    let now = c.args.self.now in
    let is : c.args.item.now ≡ item.Sync c.in-Sync.id = search rules in
    let id : c.deref.result.now ≡ arc_value c.in-Sync.id = search rules in
    let same : sync c.deref.result.now ≡ seen_item c.args.item.now = ap sync id ∙ ap seen_item (sym is) in
    IfOk-weaker c.bring.result _ _
    (λ coming e. λ s. served_beside now.likenesses c.bring.new.self.likenesses _ _ now.marked (monitors_due (marked_item_of c.args.item.now)) (place_coming coming) (ap (λ (j : machine.Item). due (served_by s) now.chains.db j now.monitors) same) (e s))
    c.bring.ensures.marks
