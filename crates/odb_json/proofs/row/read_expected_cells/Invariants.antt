use Rattle.std.proofs.Common.{◌≡◌}
use Rattle.serde_json.specs.View.{members_view}
use Rattle.odb_schema.proofs.Eachs.{after}
use Rattle.odb_json.specs.Operation.{read_expected_cells}
use Rattle.odb_json.specs.Represented.Row.{cells_of}
use Rattle.odb_json.proofs.row.read_expected_cells.Given as goal

abbrev pub invariant-loop-name : goal.invariant-loop-name
invariant-loop-name l = read_expected_cells l.names l.table.columns (members_view l.members.entries) ≡ after (cells_of l.row) (read_expected_cells l.names l.table.columns (members_view l.name-iterator))
