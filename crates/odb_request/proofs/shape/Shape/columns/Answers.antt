use Rattle.std.proofs.Common.{◌∙◌, ap, map}
use Rattle.std.specs.Arc.{arc_value}
use Rattle.odb_cond.specs.Represented.Clause.{selector_of}
use Rattle.odb_request.specs.Represented.Shape.{Asked}
use Rattle.odb_request.proofs.Shown.{sources, sources-monitored}
use Rattle.odb_request.proofs.shape.Shape.columns.Goals as goal
use Rattle.odb_schema.specs.Schema.{columns_at}

pub returns : goal.returns
returns c =
    let a = c.self.inside in
    ap (map selector_of) c.as_slice.ensures.value
    ∙ sources-monitored (columns_at (arc_value a.schema) a.table) a.columns.items
    ∙ ap (λ (x : Asked). sources x.shape.columns) c.self.view_is
