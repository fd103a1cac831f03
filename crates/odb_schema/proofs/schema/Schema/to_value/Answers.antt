use mathlib.Core.Path.{ap, ◌∙◌}
use Rattle.std.proofs.Common.{rules}
use Rattle.odb_schema.specs.SchemaText.{read_schema, write_schema}
use Rattle.odb_schema.proofs.schema.Schema.to_value.Goals as goal

pub returns-clause-exact : goal.returns-clause-exact
unfolding write_schema
returns-clause-exact c = search rules

pub returns-clause-read_back : goal.returns-clause-read_back
returns-clause-read_back c = ap read_schema (returns-clause-exact c) ∙ c.reads_back.ensures
