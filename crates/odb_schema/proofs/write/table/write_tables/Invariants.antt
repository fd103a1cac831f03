use Rattle.std.proofs.Common.{◌≡◌, drop, map}
use Rattle.odb_schema.specs.Json.{members_of}
use Rattle.odb_schema.specs.Represented.Members.{table_member}
use Rattle.odb_schema.proofs.write.table.write_tables.Given as goal

abbrev pub invariant-loop-place : goal.invariant-loop-place
invariant-loop-place l = l.object ≡ members_of (map table_member (drop l.place l.tables))
