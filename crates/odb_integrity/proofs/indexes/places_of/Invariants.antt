use Rattle.std.proofs.Common.{◌≡◌, filter_map, map, string_bytes, take}
use Rattle.odb_schema.specs.Schema.{column_place}
use Rattle.odb_integrity.proofs.indexes.places_of.Given as goal

abbrev pub invariant-loop-name : goal.invariant-loop-name
invariant-loop-name l = l.places.items ≡ filter_map (column_place l.table.columns) (map string_bytes (take l.name-index l.name-items))
