use Rattle.std.proofs.Common.{◌≡◌, Some, drop}
use Rattle.serde_json.specs.View.{items_view}
use Rattle.odb_atoms.specs.First.{each}
use Rattle.odb_schema.specs.Json.{items_list}
use Rattle.odb_schema.proofs.Eachs.{after}
use Rattle.odb_json.specs.MutationNotation.{read_mutation}
use Rattle.odb_json.proofs.mutation.read_all.Given as goal

abbrev pub invariant-loop-item : goal.invariant-loop-item
invariant-loop-item l = each (read_mutation (Some l.names) l.table.columns) (items_list (items_view l.items)) ≡ after l.mutations.items (each (read_mutation (Some l.names) l.table.columns) (items_list (items_view (drop l.item-index l.items))))
