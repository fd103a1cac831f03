use Rattle.std.proofs.Common.{sym, ◌∙◌}
use Rattle.odb_tables.proofs.Installs.{not-put}
use Rattle.odb_tables.proofs.table.Table.put_in_row.Goals as goal

pub returns-then-not-is_new-clause-ok : goal.returns-then-not-is_new-clause-ok
returns-then-not-is_new-clause-ok c = not-put c.args.self.now c.args.row.now (sym c.is_new.ensures ∙ c.if-not-is_new.true)
