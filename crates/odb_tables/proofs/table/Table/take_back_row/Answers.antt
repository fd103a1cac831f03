use Rattle.std.proofs.Common.{sym, ◌∙◌}
use Rattle.odb_tables.proofs.Installs.{not-taken}
use Rattle.odb_tables.proofs.table.Table.take_back_row.Goals as goal

pub returns-then-not-is_new : goal.returns-then-not-is_new
returns-then-not-is_new c = not-taken c.args.self.now c.args.row.now (sym c.is_new.ensures ∙ c.if-not-is_new.true)
