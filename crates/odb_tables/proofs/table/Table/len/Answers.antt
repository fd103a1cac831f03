use Rattle.std.proofs.Common.{sym, ap, ◌∙◌}
use Rattle.std.specs.Arc.{arc_value}
use Rattle.odb_atoms.specs.FinMap as finite
use Rattle.odb_tables.proofs.KeyedMaps.{len-keyed}
use Rattle.odb_tables.proofs.table.Table.len.Goals as goal

pub returns-clause-rows : goal.returns-clause-rows
returns-clause-rows c = c.len.ensures.len ∙ sym (len-keyed arc_value c.self.inside.rows c.len.ensures.unique) ∙ ap finite.len c.self.view_is
