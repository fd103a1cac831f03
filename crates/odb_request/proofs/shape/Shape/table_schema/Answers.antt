use Rattle.std.proofs.Common.{◌≡◌, rules, ◌∙◌, ap, sym}
use Rattle.std.specs.Arc.{arc_value}
use Rattle.odb_request.specs.Represented.Shape.{Asked}
use Rattle.odb_request.proofs.Shown.{known_by, known_by-monitored}
use Rattle.odb_request.proofs.shape.Shape.table_schema.Goals as goal
use Rattle.odb_schema.specs.Schema.{columns_at}

pub returns-clause-columns : goal.returns-clause-columns
returns-clause-columns c =
    let a = c.self.inside in
    let cs = columns_at (arc_value a.schema) a.table in
    let at : c.table_at.result.now.columns ≡ cs = search rules in
    ap (λ (x : Asked). x.shape.columns) (sym c.self.view_is)
    ∙ known_by-monitored cs a.columns.items
    ∙ ap (λ (x : Asked). known_by cs x.shape.columns) c.self.view_is
    ∙ ap (λ l. known_by l c.args.self.now.shape.columns) (sym at)
