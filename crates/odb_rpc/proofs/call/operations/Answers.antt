use Rattle.std.proofs.Common.{rules, ◌≡◌, Some, drop, map, ap, ◌∙◌}
use Rattle.serde_json.specs.Find.{as_array}
use Rattle.serde_json.specs.View.{view, items_view}
use Rattle.odb_wire.specs.Message.{params_of}
use Rattle.odb_wire.specs.Shown.{request_data}
use Rattle.odb_rpc.proofs.Requests.{operations_by}
use Rattle.odb_rpc.proofs.call.operations.Goals as goal

pub returns-in-Some : goal.returns-in-Some
returns-in-Some c =
    let xs = c.in-Some.params.now.items in
    let params = params_of (request_data c.args.request.now) in
    let listed : Some (items_view xs) ≡ as_array params = search rules in
    c.after_first.ensures
    ∙ ap (λ vs. drop 1 (map view vs)) c.as_slice.ensures.value
    ∙ operations_by (as_array params) xs listed
