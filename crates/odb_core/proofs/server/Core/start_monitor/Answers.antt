use Rattle.std.proofs.Common.{rules, ◌≡◌, true, false, Ok, Err, is_some, sym, ap, subst, ◌∙◌}
use Rattle.std.proofs.lemmas.Result.{on_ok_weaker}
use Rattle.std.specs.Prelude.{option_map}
use Rattle.serde_json.specs.View.{view}
use Rattle.odb_commit.specs.Sound.{IsSound}
use Rattle.odb_atoms.specs.Uuid.{uuid_from}
use Rattle.odb_atoms.specs.FinMap.{get}
use Rattle.odb_atoms.specs.Represented.Error.{error_of}
use Rattle.odb_request.specs.Represented.Notation.{notation_of}
use Rattle.odb_request.specs.Requests.{read_requests}
use Rattle.odb_rpc.specs.Represented.Printable.{printable_data}
use Rattle.odb_wire.specs.Shown.{request_data}
use Rattle.odb_service.specs.Server.{Server, served_by}
use Rattle.odb_service.specs.World.{World, asked_of, watched}
use Rattle.odb_sessions.proofs.AsRead.{apart_read}
use Rattle.odb_core.specs.Represented.Monitors.{requests_as}
use Rattle.odb_core.proofs.AskedMonitors.{reads_on, used_fails}
use Rattle.odb_core.proofs.RequestTables.{of_tables}
use Rattle.odb_core.proofs.SessionsOfSchema.{read_of}
use Rattle.odb_core.proofs.ServerSteps.{placed}
use Rattle.odb_core.proofs.server.Core.start_monitor.Goals as goal

pub returns-then-branch-clause-ok : goal.returns-then-branch-clause-ok
returns-then-branch-clause-ok c =
    let s = c.args.self.now.schema in
    let w : World = c.args.self.now.world in
    let i = printable_data c.args.asked.id in
    let one : c.in_ok-is_used.field-0 ≡ true = search rules in
    let used : is_some (watched (served_by s) i (asked_of (served_by s) (get w.sessions c.args.session))) ≡ true = sym (c.in_ok-is_used.ensures s) ∙ one in
    on_ok_weaker c.fail.result (λ e. ap (placed c.args.self.now) (used_fails (served_by s) c.args.session (request_data c.args.request.now) (notation_of c.args.asked.notation) i (option_map uuid_from c.args.asked.since) (view c.args.asked.requests.now) w used) ∙ e) c.fail.ensures.ok

pub begin-requires-clause-tables : goal.begin-requires-clause-tables
begin-requires-clause-tables c =
    let s = c.args.self.now.schema in
    let n = notation_of c.args.asked.notation in
    let d = view c.args.asked.requests.now in
    let read : read_requests s n d ≡ Ok c.in-Ok.requests.items = sym (c.in_ok-requests.ensures ∙ ap (λ (v : Server). read_requests v.schema n d) c.self.view_is) ∙ ap requests_as c.in-Ok.is in
    let sound : IsSound s c.args.self.now.world.db = subst (λ (v : Server). IsSound v.schema v.world.db) c.self.view_is c.self.invariant.0.0 in
    of_tables s c.args.self.now.world.db sound.0.0 n d c.in-Ok.requests.items read

pub begin-requires-clause-apart : goal.begin-requires-clause-apart
begin-requires-clause-apart c =
    let s = c.args.self.now.schema in
    let n = notation_of c.args.asked.notation in
    let d = view c.args.asked.requests.now in
    let read : read_requests s n d ≡ Ok c.in-Ok.requests.items = sym (c.in_ok-requests.ensures ∙ ap (λ (v : Server). read_requests v.schema n d) c.self.view_is) ∙ ap requests_as c.in-Ok.is in
    apart_read s n d c.in-Ok.requests.items read

pub begin-requires-clause-of : goal.begin-requires-clause-of
begin-requires-clause-of c =
    let s = c.args.self.now.schema in
    let n = notation_of c.args.asked.notation in
    let d = view c.args.asked.requests.now in
    let read : read_requests s n d ≡ Ok c.in-Ok.requests.items = sym (c.in_ok-requests.ensures ∙ ap (λ (v : Server). read_requests v.schema n d) c.self.view_is) ∙ ap requests_as c.in-Ok.is in
    read_of s n d c.in-Ok.requests.items read

pub returns-in-Ok-clause-ok : goal.returns-in-Ok-clause-ok
returns-in-Ok-clause-ok c =
    let s = c.args.self.now.schema in
    let w : World = c.args.self.now.world in
    let n = notation_of c.args.asked.notation in
    let i = printable_data c.args.asked.id in
    let d = view c.args.asked.requests.now in
    let none : c.in_ok-is_used.field-0 ≡ false = search rules in
    let unused : is_some (watched (served_by s) i (asked_of (served_by s) (get w.sessions c.args.session))) ≡ false = sym (c.in_ok-is_used.ensures s) ∙ none in
    let read : read_requests s n d ≡ Ok c.in-Ok.requests.items = sym (c.in_ok-requests.ensures ∙ ap (λ (v : Server). read_requests v.schema n d) c.self.view_is) ∙ ap requests_as c.in-Ok.is in
    on_ok_weaker c.begin.result (λ e. ap (placed c.args.self.now) (reads_on (served_by s) c.args.session (request_data c.args.request.now) n i (option_map uuid_from c.args.asked.since) d w (Ok c.in-Ok.requests.items) unused read) ∙ e) c.begin.ensures.ok

pub returns-in-Err-clause-ok : goal.returns-in-Err-clause-ok
returns-in-Err-clause-ok c =
    let s = c.args.self.now.schema in
    let w : World = c.args.self.now.world in
    let n = notation_of c.args.asked.notation in
    let i = printable_data c.args.asked.id in
    let d = view c.args.asked.requests.now in
    let none : c.in_ok-is_used.field-0 ≡ false = search rules in
    let unused : is_some (watched (served_by s) i (asked_of (served_by s) (get w.sessions c.args.session))) ≡ false = sym (c.in_ok-is_used.ensures s) ∙ none in
    let read : read_requests s n d ≡ Err (error_of c.in-Err.why) = sym (c.in_ok-requests.ensures ∙ ap (λ (v : Server). read_requests v.schema n d) c.self.view_is) ∙ ap requests_as c.in-Err.is in
    on_ok_weaker c.fail-in-Err.result (λ e. ap (placed c.args.self.now) (reads_on (served_by s) c.args.session (request_data c.args.request.now) n i (option_map uuid_from c.args.asked.since) d w (Err (error_of c.in-Err.why)) unused read) ∙ e) c.fail-in-Err.ensures.ok
