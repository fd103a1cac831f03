use Rattle.std.proofs.Common.{◌≡◌}
use Rattle.serde_json.specs.View.{members_view}
use Rattle.odb_schema.proofs.Eachs.{after}
use Rattle.odb_json.specs.Operation.{read_cells}
use Rattle.odb_json.specs.Represented.Row.{written}
use Rattle.odb_json.proofs.row.RowReader.read_cells.Given as goal

abbrev pub invariant-loop-name : goal.invariant-loop-name
invariant-loop-name l = read_cells l.self.names.now l.self.table.now.columns (written l.self.writing l.self.table.now.columns) (members_view l.members.entries) ≡ after l.row.items (read_cells l.self.names.now l.self.table.now.columns (written l.self.writing l.self.table.now.columns) (members_view l.name-iterator))
