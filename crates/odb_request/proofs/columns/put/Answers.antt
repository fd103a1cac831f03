use Rattle.std.proofs.Common.{rules, ◌≡◌, ◌∙◌, ap, length, map}
use Rattle.std.specs.List.{insert, position}
use Rattle.std.specs.Prelude.{unwrap_or}
use Rattle.odb_request.specs.Represented.Parts.{monitored_as}
use Rattle.odb_request.proofs.InOrder.{IsAfter, placed}
use Rattle.odb_request.proofs.columns.put.Goals as goal

pub returns : goal.returns
returns c =
    let shown = monitored_as c.args.table.now.columns in
    let columns = c.args.columns.now.items in
    let place : c.unwrap_or-place.result ≡ unwrap_or (position (IsAfter shown c.args.column) columns) (length columns) = search rules in
    let items : c.insert.new.self.items ≡ insert columns c.unwrap_or-place.result c.args.column = search rules in
    ap (map shown) (items ∙ ap (λ n. insert columns n c.args.column) place) ∙ placed shown c.args.column columns
