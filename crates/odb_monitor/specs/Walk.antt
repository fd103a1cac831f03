-- A part of a job whose table is gone through, row by row, for the rows that are looked for.
use Rattle.std.specs.Prelude.{List}
use Rattle.std.specs.List.{filter}
use Rattle.odb_atoms.specs.Row.{Row}
use Rattle.odb_atoms.specs.Uuid.{Uuid}
use Rattle.odb_cond.specs.Filter.{Filter, selects}
use Rattle.odb_monitor.specs.Job.{Part}

-- the part, the filter by which each of the rows is tested, and these
pub record Walk : Type 0 where
  pub part : Part
  pub filter : Filter
  pub rows : List (Uuid × Row)

-- those that the filter selects, in their order
abbrev pub selected_of : Filter → List (Uuid × Row) → List (Uuid × Row)
selected_of f rows = filter (λ e. selects f e.0 e.1) rows
