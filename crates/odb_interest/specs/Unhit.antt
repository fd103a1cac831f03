-- A change that doesn't concern a filter changes nothing that the filter selects.
use Rattle.std.specs.Prelude.{◌≡◌, false, if◌then◌else◌, List, Some, None}
use Rattle.odb_atoms.specs.FinMap.{FinMap, get, map_entries}
use Rattle.odb_atoms.specs.Row.{Row}
use Rattle.odb_atoms.specs.Uuid.{Uuid, uuid_cmp}
use Rattle.odb_atoms.specs.Value.{Value}
use Rattle.odb_cond.specs.Filter.{Filter, selects}
use Rattle.odb_interest.specs.Keys.{is_hit}
use Rattle.odb_tables.specs.Change.{Changes, before, changed_by}
use Rattle.odb_tables.specs.Database.{Table}

-- of the rows that the filter selects, the values that are made of each
abbrev pub selected_by : Filter → (Uuid → Row → List Value) → Table → FinMap uuid_cmp (List Value)
selected_by f make t = map_entries (λ u r. if selects f u r then Some (make u r) else None) t

-- what the change says of the rows before is what the table has
abbrev pub IsChangeOf : Table → Changes → Type 0
IsChangeOf t d = (u : Uuid) → before (get t u) (get d u) ≡ get t u

abbrev pub UnhitStays : Type 0
UnhitStays = (f : Filter) (t : Table) (d : Changes) → IsChangeOf t d → is_hit d f ≡ false → (make : Uuid → Row → List Value) → selected_by f make (changed_by t d) ≡ selected_by f make t
