use Rattle.std.proofs.Common.{rules}
use Rattle.std.proofs.Common.{◌∙◌}
use Rattle.odb_request.proofs.Apart.{columns_named}
use Rattle.odb_request.proofs.names.has_columns_apart.Goals as goal

pub returns : goal.returns
returns c = c.are_apart.ensures ∙ columns_named c.table_schema.result.now.columns c.columns.result.now c.args.request.now.shape.columns (search rules) (search rules)
