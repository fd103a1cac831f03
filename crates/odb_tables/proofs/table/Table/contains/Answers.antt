use Rattle.std.proofs.Common.{ap, ◌∙◌}
use Rattle.std.specs.Arc.{arc_value}
use Rattle.odb_atoms.specs.FinMap as finite
use Rattle.odb_tables.proofs.KeyedMaps.{contains-keyed}
use Rattle.odb_tables.proofs.table.Table.contains.Goals as goal

pub returns : goal.returns
returns c = c.contains_key.ensures ∙ contains-keyed arc_value c.self.inside.rows c.args.key ∙ ap (λ t. finite.contains_key t c.args.key) c.self.view_is
