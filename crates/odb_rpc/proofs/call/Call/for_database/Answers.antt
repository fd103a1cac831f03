use Rattle.std.proofs.Common.{rules, ◌≡◌, Some, None, false, ap, ◌∙◌, codes, unwrap_or, if◌then◌else◌}
use Rattle.serde_json.specs.Data.{null}
use Rattle.serde_json.specs.Find.{as_array, get}
use Rattle.serde_json.specs.View.{view}
use Rattle.odb_wire.specs.Message.{has_left_out, id_of, is_notification, params_of}
use Rattle.odb_wire.specs.Shown.{request_data}
use Rattle.odb_rpc.specs.Message.{of_request, reply_id}
use Rattle.odb_rpc.specs.Served.{served}
use Rattle.odb_rpc.specs.Represented.Call.{name_of}
use Rattle.odb_rpc.proofs.LeftOut.{whole-at_key}
use Rattle.odb_rpc.proofs.Requests.{named-call_of, no_array, unknown-call_of}
use Rattle.odb_rpc.proofs.call.Call.for_database.Goals as goal

-- src/call.rt:98:13
pub returns-in_default : goal.returns-in_default
returns-in_default c json =
    let d = request_data c.args.request.now in
    let m = c.method.result.now in
    let asks : is_notification d ≡ false = search rules in
    let whole : has_left_out d ≡ false = search rules in
    let none : None ≡ (if served m then Some m else None) = search rules in
    unknown-call_of c.args.database.now json d m c.method.ensures asks whole none

-- src/call.rt:101:13
pub returns-in_default-params : goal.returns-in_default-params
returns-in_default-params c json =
    let d = request_data c.args.request.now in
    let m = c.method.result.now in
    let asks : is_notification d ≡ false = search rules in
    let whole : has_left_out d ≡ false = search rules in
    let some : Some (name_of c.in-Some.method) ≡ (if served m then Some m else None) = search rules in
    let absent : None ≡ get (codes "params") d = search rules in
    let none : None ≡ as_array (params_of d) = ap (λ o. as_array (unwrap_or o null)) absent in
    no_array c.args.database.now json (reply_id (id_of d)) c.in-Some.method (params_of d) none
    ∙ named-call_of c.args.database.now json d m c.method.ensures c.in-Some.method asks whole some

-- src/call.rt:103:9
pub call-requires : goal.call-requires
call-requires c =
    let d = request_data c.args.request.now in
    let whole : has_left_out d ≡ false = search rules in
    let there : Some (view c.in-Some-params.params.now) ≡ get (codes "params") d = search rules in
    ap (λ o. has_left_out (unwrap_or o null)) there ∙ whole-at_key (codes "params") d whole

-- src/call.rt:87:5
pub returns : goal.returns
returns c json =
    let d = request_data c.args.request.now in
    let m = c.method.result.now in
    let k = c.in-Some.method in
    let asks : is_notification d ≡ false = search rules in
    let whole : has_left_out d ≡ false = search rules in
    let some : Some (name_of k) ≡ (if served m then Some m else None) = search rules in
    let there : Some (view c.in-Some-params.params.now) ≡ get (codes "params") d = search rules in
    c.call.ensures json (reply_id (id_of d))
    ∙ ap (λ o. of_request c.args.database.now json served (reply_id (id_of d)) (name_of k) (unwrap_or o null)) there
    ∙ named-call_of c.args.database.now json d m c.method.ensures k asks whole some
