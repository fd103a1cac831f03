use Rattle.std.proofs.Common.{◌≡◌, Result, Ok, Err, sym, ap, ◌∙◌}
use Rattle.std.specs.Prelude.{option_map}
use Rattle.std.proofs.lemmas.Result.{on_ok_weaker}
use Rattle.serde_json.specs.View.{view}
use Rattle.odb_atoms.specs.FinMap.{get}
use Rattle.odb_request.specs.Requests.{read_changes}
use Rattle.odb_rpc.specs.Message as message
use Rattle.odb_rpc.specs.Represented.Failure.{failure_of}
use Rattle.odb_rpc.specs.Represented.Printable.{printable_data}
use Rattle.odb_wire.specs.Shown.{request_data}
use Rattle.odb_service.specs.Server.{served_by}
use Rattle.odb_service.specs.World.{World, asked_of, watched}
use Rattle.odb_sessions.specs.Named.{named}
use Rattle.odb_sessions.specs.Represented.Item.{filters_of}
use Rattle.odb_core.specs.Represented.Monitors.{Filters, change_for, changed_by, filters_as, is_taken}
use Rattle.odb_core.proofs.AskedMonitors.{change_is}
use Rattle.odb_core.proofs.ServerSteps.{placed}
use Rattle.odb_core.proofs.server.Core.change_monitor.Goals as goal

pub returns-in-Ok-clause-ok : goal.returns-in-Ok-clause-ok
returns-in-Ok-clause-ok c =
    let h = served_by c.args.self.now.schema in
    let w : World = c.args.self.now.world in
    let n = c.args.session in
    let d = request_data c.args.request.now in
    let old = printable_data c.args.asked.old in
    let new = printable_data c.args.asked.new in
    let filters = view c.args.asked.filters.now in
    let o = watched h old (asked_of h (get w.sessions n)) in
    let comes_to : Result Filters message.Failure = change_for h (is_taken h old new (get w.sessions n)) (read_changes c.args.self.now.schema filters) (option_map named o) in
    let read : comes_to ≡ Ok (filters_of c.in-Ok.changes) = sym c.in_ok-changes.ensures ∙ ap filters_as c.in-Ok.is in
    on_ok_weaker c.shift.result (λ e. ap (placed c.args.self.now) (change_is h n d old new w filters o ∙ ap (λ r. changed_by n d old new r w) read) ∙ e) c.shift.ensures.ok

pub returns-in-Err-clause-ok : goal.returns-in-Err-clause-ok
returns-in-Err-clause-ok c =
    let h = served_by c.args.self.now.schema in
    let w : World = c.args.self.now.world in
    let n = c.args.session in
    let d = request_data c.args.request.now in
    let old = printable_data c.args.asked.old in
    let new = printable_data c.args.asked.new in
    let filters = view c.args.asked.filters.now in
    let o = watched h old (asked_of h (get w.sessions n)) in
    let comes_to : Result Filters message.Failure = change_for h (is_taken h old new (get w.sessions n)) (read_changes c.args.self.now.schema filters) (option_map named o) in
    let read : comes_to ≡ Err (failure_of c.in-Err.why) = sym c.in_ok-changes.ensures ∙ ap filters_as c.in-Err.is in
    on_ok_weaker c.fail.result (λ e. ap (placed c.args.self.now) (change_is h n d old new w filters o ∙ ap (λ r. changed_by n d old new r w) read) ∙ e) c.fail.ensures.ok
