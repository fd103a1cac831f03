use Rattle.std.proofs.Common.{◌≡◌, map, string_bytes, take}
use Rattle.serde_json.specs.View.{view}
use Rattle.odb_schema.specs.Json.{string}
use Rattle.odb_schema.proofs.write.table.write_names.Given as goal

abbrev pub invariant-loop-name : goal.invariant-loop-name
invariant-loop-name l = map view l.items.items ≡ map string (map string_bytes (take l.name-index l.names))
