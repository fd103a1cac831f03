use Rattle.std.proofs.Common.{◌≡◌, ◌∙◌, ap, map}
use Rattle.odb_monitor.proofs.Shapes.{monitored_all}
use Rattle.odb_request.specs.Represented.Notation.{notation_of}
use Rattle.odb_request.specs.Represented.Parts.{monitored_as}
use Rattle.odb_monitor.proofs.layout.Layout.of.Goals as goal

pub returns : goal.returns
returns c =
    let xs = c.columns.result.now in
    let cs = c.args.shape.now.shape.columns in
    let columns : map (monitored_as c.of.result) xs ≡ cs = ap (λ ts. map (monitored_as ts) xs) c.of.ensures ∙ monitored_all c.table_schema.result.now.columns xs cs c.columns.ensures c.table_schema.ensures.columns in
    λ i. record { notation = notation_of c.args.notation; first = c.args.first; columns = columns i }
