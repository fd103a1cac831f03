use Rattle.std.proofs.Common.{rules, ◌≡◌, ◌<◌, List, length, option_map, position, slice_index_or, Some, None, subst, sym, ap, ◌∙◌, map}
use Rattle.odb_schema.specs.Schema.{Schema}
use Rattle.odb_service.specs.Server.{served_by}
use Rattle.odb_sessions.specs.Asked.{is_same}
use Rattle.odb_sessions.specs.Composed.{asked_of}
use Rattle.odb_round.specs.Foreseen.{Ahead, marked_ahead, seen_ahead}
use Rattle.odb_round.specs.OfSchema.{AreOfSchema}
use Rattle.odb_round.specs.Jobs.{certainly}
use Rattle.odb_sessions.specs.Marked.{MarkedMonitor, marks_in, watch_of}
use Rattle.odb_sessions.specs.Tied.{AreLive}
use Rattle.odb_round.specs.Sending.{due_sending}
use Rattle.odb_round.proofs.Aheads.{due_found, due_nowhere, leaves_found, leaves_nowhere, live_ahead, same_marks, still_held}
use Rattle.odb_round.proofs.OneSchema.{ahead_of, still_of}
use Rattle.odb_round.proofs.Places.{keeps_itself}
use Rattle.odb_round.proofs.foreseen.pass.Goals as goal
use Rattle.std.specs.Prelude.{IfSome}
use Rattle.odb_service.specs.Session.{refilter}
use Rattle.odb_round.specs.Planned.{due}
use Rattle.odb_round.specs.Represented.Served.{place_told}
use Rattle.odb_sessions.specs.Represented.Under.{filters_in, item_in}
use Rattle.odb_round.specs.ByMarks.{IsDueTo, watch_due}
use Rattle.odb_round.proofs.Served.{one_ahead, served_so, update_to}
use Rattle.odb_sessions.specs.Book.{revision_at}

pub returns-in_default-clause-text : goal.returns-in_default-clause-text
returns-in_default-clause-text c = λ s all kept.
    let none : position (λ (a : Ahead). is_same c.args.id.now a.marked.id) c.args.monitors.now.items ≡ None = search rules in
    ap (option_map certainly) (sym (ap (option_map (due_sending (served_by s) (revision_at c.args.wanted.now.chains c.args.wanted.now.recent))) (due_nowhere s c.args.wanted.now.chains.db c.args.id.now c.args.under c.args.monitors.now.items none)))

pub returns-in_default-clause-passed : goal.returns-in_default-clause-passed
returns-in_default-clause-passed c = λ s.
    let none : position (λ (a : Ahead). is_same c.args.id.now a.marked.id) c.args.monitors.now.items ≡ None = search rules in
    sym (leaves_nowhere s c.args.wanted.now.chains.db c.args.id.now c.args.under c.args.monitors.now.items none)

pub update-requires-clause-live : goal.update-requires-clause-live
update-requires-clause-live c =
    let xs : List Ahead = c.args.monitors.now.items in
    let k = c.in-Some.place in
    let x : Ahead = c.index.result.now in
    let low : k < length xs = search rules in
    let at : x ≡ slice_index_or xs k x = search rules in
    subst (λ (y : Ahead). AreLive c.args.wanted.now.chains (marks_in y.marked)) (sym at) (live_ahead c.args.wanted.now.chains xs k x low c.requires.live)

pub update-requires-clause-of : goal.update-requires-clause-of
update-requires-clause-of c =
    let s : Schema = c.args.wanted.now.basis.schema in
    let xs : List Ahead = c.args.monitors.now.items in
    let k = c.in-Some.place in
    let x : Ahead = c.index.result.now in
    let low : k < length xs = search rules in
    let at : x ≡ slice_index_or xs k x = search rules in
    subst (λ (y : Ahead). AreOfSchema s (asked_of y.marked.tables)) (sym at) (ahead_of s xs k x low c.requires.of)

pub returns-clause-text : goal.returns-clause-text
returns-clause-text c = λ s all kept.
    let db = c.args.wanted.now.chains.db in
    let revision = revision_at c.args.wanted.now.chains c.args.wanted.now.recent in
    let xs : List Ahead = c.args.monitors.now.items in
    let k = c.in-Some.place in
    let x : Ahead = c.index.result.now in
    let some : position (λ (a : Ahead). is_same c.args.id.now a.marked.id) xs ≡ Some k = search rules in
    let at : x ≡ slice_index_or xs k x = search rules in
    c.in_ok-message.ensures.text (served_by s) all kept ∙ ap (option_map certainly) (sym (ap (option_map (due_sending (served_by s) revision)) (due_found s db c.args.id.now c.args.under xs x k some at)))

pub returns-clause-passed : goal.returns-clause-passed
returns-clause-passed c = λ s.
    let xs : List Ahead = c.args.monitors.now.items in
    let k = c.in-Some.place in
    let x : Ahead = c.index-2.result.now in
    let some : position (λ (a : Ahead). is_same c.args.id.now a.marked.id) xs ≡ Some k = search rules in
    let at : x ≡ slice_index_or xs k x = search rules in
    sym (leaves_found s c.args.wanted.now.chains.db c.args.id.now c.args.under xs x c.brought.result k some at c.brought.ensures)

pub returns-clause-live : goal.returns-clause-live
returns-clause-live c =
    let xs : List Ahead = c.args.monitors.now.items in
    let k = c.in-Some.place in
    let x : Ahead = c.index-2.result.now in
    let low : k < length xs = search rules in
    let at : x ≡ slice_index_or xs k x = search rules in
    subst (AreLive c.args.wanted.now.chains) (sym (same_marks xs k x c.brought.result low (ap (λ (a : Ahead). a.marked) c.brought.ensures ∙ ap (λ (a : Ahead). a.marked) at))) c.requires.live

pub returns-clause-of : goal.returns-clause-of
returns-clause-of c =
    let xs : List Ahead = c.args.monitors.now.items in
    let k = c.in-Some.place in
    let x : Ahead = c.index-2.result.now in
    let low : k < length xs = search rules in
    let at : x ≡ slice_index_or xs k x = search rules in
    still_of c.args.wanted.now.basis.schema xs k x c.brought.result low (ap (λ (a : Ahead). a.marked) c.brought.ensures ∙ ap (λ (a : Ahead). a.marked) at) c.requires.of

pub returns-clause-marked : goal.returns-clause-marked
returns-clause-marked c =
    let xs : List Ahead = c.args.monitors.now.items in
    let k = c.in-Some.place in
    let x : Ahead = c.index-2.result.now in
    let low : k < length xs = search rules in
    let at : x ≡ slice_index_or xs k x = search rules in
    still_held xs k x c.brought.result low (ap (λ (a : Ahead). a.marked) c.brought.ensures ∙ ap (λ (a : Ahead). a.marked) at)

pub returns-in_default-clause-jobs : goal.returns-in_default-clause-jobs
returns-in_default-clause-jobs c = keeps_itself c.args.wanted.now.jobs

pub returns-clause-jobs : goal.returns-clause-jobs
returns-clause-jobs c = c.update.ensures.jobs

pub returns-in_default-clause-marks : goal.returns-in_default-clause-marks
returns-in_default-clause-marks c = λ s. (keeps_itself c.args.wanted.now.likenesses, tt)

pub returns-clause-marks : goal.returns-clause-marks
returns-clause-marks c = λ s.
    let db = c.args.wanted.now.chains.db in
    let xs : List Ahead = c.args.monitors.now.items in
    let k = c.in-Some.place in
    let x : Ahead = c.index.result.now in
    let some : position (λ (a : Ahead). is_same c.args.id.now a.marked.id) xs ≡ Some k = search rules in
    let low : k < length xs = search rules in
    let at : x ≡ slice_index_or xs k x = search rules in
    let hs : List MarkedMonitor = marked_ahead xs in
    let fs = filters_in c.args.under in
    served_so c.args.wanted.now.likenesses c.update.new.wanted.likenesses (λ h. h ≡ x.marked) (IsDueTo (due (served_by s) db (item_in c.args.id.now c.args.under) (map (seen_ahead db) xs)) hs) (place_told c.in_ok-message.message)
    (λ h is. (
      one_ahead xs k x h low at is,
      subst (λ o. IfSome o (λ d. watch_due d ≡ Some (watch_of h))) (sym (due_found s db c.args.id.now c.args.under xs x k some at)) (update_to (served_by s) db (refilter fs (watch_of x.marked).requests) x h is),
    ))
    c.in_ok-message.ensures.marks
