use Rattle.std.proofs.Common.{◌≡◌, ◌||◌}
use Rattle.std.specs.List.{list_any}
use Rattle.odb_atoms.specs.Row.{Row}
use Rattle.odb_atoms.specs.Uuid.{Uuid}
use Rattle.odb_cond.specs.Represented.Keyed.{keyed_holds, listed_holds}
use Rattle.odb_cond.proofs.prepared.prepare_all.Given as goal

abbrev pub invariant-loop-list : goal.invariant-loop-list
invariant-loop-list l = (u : Uuid) (r : Row) → (list_any (keyed_holds u r) l.keyed.items || list_any (listed_holds u r) l.list-iterator.rest.items) ≡ list_any (listed_holds u r) l.fn.lists.items
