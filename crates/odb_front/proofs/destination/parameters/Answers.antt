use Rattle.std.proofs.Common.{rules, ◌≡◌, Some, map, ap, ◌∙◌}
use Rattle.serde_json.specs.Find.{as_array}
use Rattle.serde_json.specs.View.{view, items_view}
use Rattle.odb_wire.specs.Message.{params_of}
use Rattle.odb_wire.specs.Shown.{request_data}
use Rattle.odb_front.proofs.Lists.{members_are}
use Rattle.odb_front.proofs.destination.parameters.Goals as goal

pub returns-in-Some : goal.returns-in-Some
returns-in-Some c =
    let xs = c.in-Some.params.now.items in
    let params = params_of (request_data c.args.request.now) in
    let listed : Some (items_view xs) ≡ as_array params = search rules in
    ap (map view) c.as_slice.ensures.value ∙ members_are (as_array params) xs listed
