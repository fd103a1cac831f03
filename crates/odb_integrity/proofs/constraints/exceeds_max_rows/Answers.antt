use Rattle.odb_tables.specs.Database.{table_at}
use Rattle.odb_integrity.proofs.Zipped.{exceeds}
use Rattle.odb_integrity.proofs.constraints.exceeds_max_rows.Goals as goal

pub returns-in-Some : goal.returns-in-Some
returns-in-Some c = exceeds c.in-Some.max_rows c.row_count.result c.args.table.now.max_rows (table_at c.args.draft.now.now c.args.id) c.in-Some.ensures c.row_count.ensures
