use Rattle.std.proofs.Common.{rules, ◌≡◌, codes, map}
use Rattle.serde_json.specs.View.{members_view}
use Rattle.odb_schema.specs.Json.{get_member}
use Rattle.odb_request.specs.Represented.Parts.{monitored_as}
use Rattle.odb_request.specs.Requests.{in_order}
use Rattle.odb_request.proofs.Monitored.{monitored_is}
use Rattle.odb_request.proofs.columns.read_monitored.Goals as goal

pub returns : goal.returns
returns c =
    let cs = c.args.table.now.columns in
    let xs = c.in_ok-columns.columns.items in
    let ys = map (monitored_as cs) c.in_ok-in_order.field-0.items in
    let is : ys ≡ in_order (map (monitored_as cs) xs) = search rules in
    monitored_is cs (get_member (codes "columns") (members_view c.args.members.now.entries)) xs ys c.in_ok-columns.ensures is
