use Rattle.std.proofs.Common.{rules, ◌≡◌, Some, false, map, ap, ◌∙◌}
use Rattle.std.specs.List.{list_any}
use Rattle.serde_json.specs.Find.{as_array}
use Rattle.serde_json.specs.View.{view, items_view}
use Rattle.odb_request.specs.Request.{update, update2}
use Rattle.odb_wire.specs.Message.{has_left_out}
use Rattle.odb_rpc.specs.Message.{answered, cancel_monitor, of_change, of_monitor, of_monitor_since, of_one, of_request, of_transact, reply}
use Rattle.odb_rpc.specs.Served.{served}
use Rattle.odb_rpc.specs.Represented.Call.{name_of}
use Rattle.odb_rpc.specs.declared.call.Method.TheVariants.{Echo, Monitor, MonitorCancel, MonitorCond, MonitorCondChange, MonitorCondSince, Transact}
use Rattle.odb_rpc.proofs.LeftOut.{whole_params}
use Rattle.odb_rpc.proofs.Requests.{an_array, echoed}
use Rattle.odb_rpc.proofs.call.Method.call.Goals as goal

-- src/call.rt:144:5
pub returns-in-Echo : goal.returns-in-Echo
returns-in-Echo c json id =
    let params = view c.args.params.now in
    let listed : Some (items_view c.in-Some.items.now.items) ≡ as_array params = search rules in
    let is : Echo ≡ c.args.self = search rules in
    ap (λ r. answered (reply id r)) c.known.ensures
    ∙ echoed c.args.database.now json id (items_view c.in-Some.items.now.items) params listed
    ∙ ap (λ k. of_request c.args.database.now json served id (name_of k) params) is

pub returns-in-Transact : goal.returns-in-Transact
returns-in-Transact c json id =
    let db = c.args.database.now in
    let params = view c.args.params.now in
    let xs = c.in-Some.items.now.items in
    let listed : Some (items_view xs) ≡ as_array params = search rules in
    let is : Transact ≡ c.args.self = search rules in
    c.transact.ensures json id
    ∙ ap (λ vs. of_transact db id (map view vs)) c.as_slice-in-Transact.ensures.value
    ∙ an_array db json id Transact xs params listed
    ∙ ap (λ k. of_request db json served id (name_of k) params) is

pub read_monitor-requires : goal.read_monitor-requires
read_monitor-requires c =
    let xs = c.in-Some.items.now.items in
    let listed : Some (items_view xs) ≡ as_array (view c.args.params.now) = search rules in
    let whole : has_left_out (view c.args.params.now) ≡ false = search rules in
    ap (λ vs. list_any has_left_out (map view vs)) c.as_slice-in-Monitor.ensures.value ∙ whole_params xs (view c.args.params.now) listed whole

pub returns-in-Monitor : goal.returns-in-Monitor
returns-in-Monitor c json id =
    let db = c.args.database.now in
    let params = view c.args.params.now in
    let xs = c.in-Some.items.now.items in
    let listed : Some (items_view xs) ≡ as_array params = search rules in
    let is : Monitor ≡ c.args.self = search rules in
    c.read_monitor.ensures json id
    ∙ ap (λ vs. of_monitor db id update (map view vs)) c.as_slice-in-Monitor.ensures.value
    ∙ an_array db json id Monitor xs params listed
    ∙ ap (λ k. of_request db json served id (name_of k) params) is

pub read_monitor-requires-in-MonitorCond : goal.read_monitor-requires-in-MonitorCond
read_monitor-requires-in-MonitorCond c =
    let xs = c.in-Some.items.now.items in
    let listed : Some (items_view xs) ≡ as_array (view c.args.params.now) = search rules in
    let whole : has_left_out (view c.args.params.now) ≡ false = search rules in
    ap (λ vs. list_any has_left_out (map view vs)) c.as_slice-in-MonitorCond.ensures.value ∙ whole_params xs (view c.args.params.now) listed whole

pub returns-in-MonitorCond : goal.returns-in-MonitorCond
returns-in-MonitorCond c json id =
    let db = c.args.database.now in
    let params = view c.args.params.now in
    let xs = c.in-Some.items.now.items in
    let listed : Some (items_view xs) ≡ as_array params = search rules in
    let is : MonitorCond ≡ c.args.self = search rules in
    c.read_monitor-in-MonitorCond.ensures json id
    ∙ ap (λ vs. of_monitor db id update2 (map view vs)) c.as_slice-in-MonitorCond.ensures.value
    ∙ an_array db json id MonitorCond xs params listed
    ∙ ap (λ k. of_request db json served id (name_of k) params) is

pub read_monitor_since-requires : goal.read_monitor_since-requires
read_monitor_since-requires c =
    let xs = c.in-Some.items.now.items in
    let listed : Some (items_view xs) ≡ as_array (view c.args.params.now) = search rules in
    let whole : has_left_out (view c.args.params.now) ≡ false = search rules in
    ap (λ vs. list_any has_left_out (map view vs)) c.as_slice-in-MonitorCondSince.ensures.value ∙ whole_params xs (view c.args.params.now) listed whole

pub returns-in-MonitorCondSince : goal.returns-in-MonitorCondSince
returns-in-MonitorCondSince c json id =
    let db = c.args.database.now in
    let params = view c.args.params.now in
    let xs = c.in-Some.items.now.items in
    let listed : Some (items_view xs) ≡ as_array params = search rules in
    let is : MonitorCondSince ≡ c.args.self = search rules in
    c.read_monitor_since.ensures json id
    ∙ ap (λ vs. of_monitor_since db id (map view vs)) c.as_slice-in-MonitorCondSince.ensures.value
    ∙ an_array db json id MonitorCondSince xs params listed
    ∙ ap (λ k. of_request db json served id (name_of k) params) is

pub read_monitor_change-requires : goal.read_monitor_change-requires
read_monitor_change-requires c =
    let xs = c.in-Some.items.now.items in
    let listed : Some (items_view xs) ≡ as_array (view c.args.params.now) = search rules in
    let whole : has_left_out (view c.args.params.now) ≡ false = search rules in
    ap (λ vs. list_any has_left_out (map view vs)) c.as_slice-in-MonitorCondChange.ensures.value ∙ whole_params xs (view c.args.params.now) listed whole

pub returns-in-MonitorCondChange : goal.returns-in-MonitorCondChange
returns-in-MonitorCondChange c json id =
    let db = c.args.database.now in
    let params = view c.args.params.now in
    let xs = c.in-Some.items.now.items in
    let listed : Some (items_view xs) ≡ as_array params = search rules in
    let is : MonitorCondChange ≡ c.args.self = search rules in
    c.read_monitor_change.ensures db json id
    ∙ ap (λ vs. of_change id (map view vs)) c.as_slice-in-MonitorCondChange.ensures.value
    ∙ an_array db json id MonitorCondChange xs params listed
    ∙ ap (λ k. of_request db json served id (name_of k) params) is

pub read_monitor_cancel-requires : goal.read_monitor_cancel-requires
read_monitor_cancel-requires c =
    let xs = c.in-Some.items.now.items in
    let listed : Some (items_view xs) ≡ as_array (view c.args.params.now) = search rules in
    let whole : has_left_out (view c.args.params.now) ≡ false = search rules in
    ap (λ vs. list_any has_left_out (map view vs)) c.as_slice-in-MonitorCancel.ensures.value ∙ whole_params xs (view c.args.params.now) listed whole

pub returns-in-MonitorCancel : goal.returns-in-MonitorCancel
returns-in-MonitorCancel c json id =
    let db = c.args.database.now in
    let params = view c.args.params.now in
    let xs = c.in-Some.items.now.items in
    let listed : Some (items_view xs) ≡ as_array params = search rules in
    let is : MonitorCancel ≡ c.args.self = search rules in
    c.read_monitor_cancel.ensures db json id
    ∙ ap (λ vs. of_one id (cancel_monitor id) (map view vs)) c.as_slice-in-MonitorCancel.ensures.value
    ∙ an_array db json id MonitorCancel xs params listed
    ∙ ap (λ k. of_request db json served id (name_of k) params) is
