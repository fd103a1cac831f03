-- How rows are looked for.
use Rattle.std.specs.Prelude.{⊤, List, Some, map}
use Rattle.std.specs.Arc.{arc_value}
use Rattle.odb_atoms.specs.Row.{Row}
use Rattle.odb_atoms.specs.Uuid.{Uuid}
use Rattle.odb_cond.specs.Filter.{Filter}
use Rattle.odb_monitor.specs.Represented.Candidates.{ListsSelected}
use Rattle.odb_monitor.specs.Represented.Sought.{IsSoughtBy}
use Rattle.odb_monitor.specs.Walk.{selected_of}
use Rattle.odb_monitor.specs.declared.search.Search.{Search}
use Rattle.odb_monitor.specs.declared.search.Search.TheVariants as search
use Rattle.odb_monitor.specs.declared.told.Told.{Told}
use Rattle.odb_tables.specs.Database.{Table}
use Rattle.odb_tables.specs.Represented.Table.{listed}

-- the rows are looked for by the filter d, and among these are all that it selects
abbrev pub IsWalk : Told → Filter → Table → Filter → List (Uuid × Row) → Type 0
IsWalk w f t d rows = IsSoughtBy w f (Some d) × ListsSelected d (selected_of d rows) t

abbrev pub Finds : Told → Filter → Table → Search → Type 0
Finds w f t search.Nothing = ⊤
Finds w f t (search.Walk d rows) = IsWalk w f t (arc_value d) (map listed rows.items)
