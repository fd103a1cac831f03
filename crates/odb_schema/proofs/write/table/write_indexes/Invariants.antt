use Rattle.std.proofs.Common.{◌≡◌, map, take}
use Rattle.serde_json.specs.View.{view}
use Rattle.odb_schema.specs.Represented.Names.{names_of}
use Rattle.odb_schema.specs.SchemaText.{write_index}
use Rattle.odb_schema.proofs.write.table.write_indexes.Given as goal

abbrev pub invariant-loop-index : goal.invariant-loop-index
invariant-loop-index l = map view l.items.items ≡ map write_index (map names_of (take l.index-index l.indexes))
