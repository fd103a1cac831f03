use Rattle.std.proofs.Common.{◌≡◌}
use Rattle.serde_json.specs.View.{members_view}
use Rattle.odb_schema.specs.Json.{members_list}
use Rattle.odb_schema.specs.Represented.Parts.{has_too_wide}
use Rattle.odb_schema.proofs.read.size.has_too_wide.Given as goal

abbrev pub invariant-loop-table : goal.invariant-loop-table
invariant-loop-table l = has_too_wide (members_list (members_view l.tables.entries)) ≡ has_too_wide (members_list (members_view l.table-iterator))
