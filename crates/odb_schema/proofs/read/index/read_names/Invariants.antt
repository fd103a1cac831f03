use Rattle.std.proofs.Common.{◌≡◌, drop, map, string_bytes, []}
use Rattle.serde_json.specs.View.{items_view}
use Rattle.odb_schema.specs.Json.{items_list}
use Rattle.odb_schema.specs.SchemaText.{distinct_names}
use Rattle.odb_schema.specs.Represented.Parts.{index_names}
use Rattle.odb_schema.proofs.Eachs.{after, turned}
use Rattle.odb_schema.proofs.read.index.read_names.Given as goal

abbrev pub invariant-loop-item : goal.invariant-loop-item
invariant-loop-item l = index_names l.columns (items_view l.items) ≡ after (map string_bytes l.names.items) (distinct_names l.columns (turned [] (map string_bytes l.names.items)) (items_list (items_view (drop l.item-index l.items))))
