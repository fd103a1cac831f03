use Rattle.std.proofs.Common.{◌≡◌, drop, map}
use Rattle.serde_json.specs.View.{items_view}
use Rattle.odb_schema.specs.Represented.Names.{names_of}
use Rattle.odb_schema.specs.Represented.Parts.{indexes_in}
use Rattle.odb_schema.proofs.Eachs.{after}
use Rattle.odb_schema.proofs.read.index.read_all.Given as goal

abbrev pub invariant-loop-item : goal.invariant-loop-item
invariant-loop-item l = indexes_in l.columns (items_view l.items) ≡ after (map names_of l.indexes.items) (indexes_in l.columns (items_view (drop l.item-index l.items)))
