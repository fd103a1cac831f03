-- A row as the client was told of it and as it is now, and what is shown of it.
use Rattle.std.specs.Prelude.{Bool, if◌then◌else◌, false, Option, Some, None, option_and_then, option_map}
use Rattle.std.specs.Option.{option_copied}
use Rattle.odb_atoms.specs.FinMap as finite
use Rattle.odb_atoms.specs.Row.{Row, cell}
use Rattle.odb_atoms.specs.Uuid.{Uuid}
use Rattle.odb_atoms.specs.Value.{same_value}
use Rattle.odb_cond.specs.Filter.{Filter, selects}
use Rattle.odb_cond.specs.Represented.Clause.{selector_of}
use Rattle.odb_cond.specs.declared.clause.Selector.{Selector}
use Rattle.odb_monitor.specs.View.{Change, Contents, change, cut, is_shown, selected}
use Rattle.odb_monitor.specs.declared.sides.Sides.{Sides}
use Rattle.odb_monitor.specs.declared.told.Told.{Told}
use Rattle.odb_monitor.specs.declared.told.Told.TheVariants.{Asked, Nothing, Under}
use Rattle.odb_request.specs.Request.{Request, Select}
use Rattle.odb_tables.specs.Change.{Changes, undone}
use Rattle.odb_tables.specs.Database.{Table}

-- whether the client was told of a row that is so, where this filter is asked
abbrev pub tells : Told → Filter → Uuid → Row → Bool
tells Nothing f u r = false
tells Asked f u r = selects f u r
tells (Under g) f u r = selects g.now u r

-- what it was told of a table
abbrev pub told_in : Told → Request → Table → Contents
told_in Nothing q t = finite.empty
told_in Asked q t = selected q t
told_in (Under g) q t = selected (record q { filter = g.now }) t

-- the table as it was then
abbrev pub table_then : Option Changes → Table → Table
table_then None t = t
table_then (Some c) t = undone t c

-- a row before and now
abbrev pub Pair : Type 0
Pair = Option Row × Option Row

abbrev pub sides_in : Sides → Uuid × Pair
sides_in s = (s.key, (option_copied s.old, option_copied s.new))

-- whether two rows have the same in a column
abbrev pub is_same_in : Uuid × Row → Uuid × Row → Selector → Bool
is_same_in p q s = same_value (cell p.0 p.1 (selector_of s)) (cell q.0 q.1 (selector_of s))

-- the row, where it passes
abbrev pub passed : (Uuid → Row → Bool) → Uuid → Option Row → Option Row
passed p u None = None
passed p u (Some r) = if p u r then Some r else None

abbrev pub only_shown : Bool → Select → Option Change → Option Change
only_shown first s c = option_and_then (λ x. if is_shown first s x then Some x else None) c

-- what is shown of a row
abbrev pub shown_at : Bool → Told → Request → Uuid → Pair → Option Change
shown_at first w q u s =
    only_shown first q.select (change (option_map (cut q.shape.columns u) (passed (tells w q.filter) u s.0)) (option_map (cut q.shape.columns u) (passed (selects q.filter) u s.1)))

abbrev pub line_at : Bool → Told → Request → Uuid × Pair → Option (Uuid × Change)
line_at first w q e = option_map (λ c. let line : Uuid × Change = (e.0, c) in line) (shown_at first w q e.0 e.1)
