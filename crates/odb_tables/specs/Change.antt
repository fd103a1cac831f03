-- Changes: the rows by which two contents differ, and what a change makes of a content, forwards and back. [P 6.3]
use Rattle.std.specs.Prelude.{Bool, cond, ◌&&◌, nat_lt, zip, List, map as map_list, Option, Some, None}
use Rattle.std.specs.List.{list_any}
use Rattle.odb_atoms.specs.FinMap as map
use Rattle.odb_atoms.specs.Row.{Row}
use Rattle.odb_atoms.specs.Uuid.{same_uuid, uuid_cmp}
use Rattle.odb_atoms.specs.Value.{same_values}
use Rattle.odb_tables.specs.Database.{Db, Table}

-- a row before and after, where they are not the same
abbrev pub changed_row : Option Row → Option Row → Option (Option Row × Option Row)
changed_row None None = None
changed_row (Some p) None = Some (Some p, None)
changed_row None (Some q) = Some (None, Some q)
changed_row (Some p) (Some q) = cond (same_uuid p.version q.version && same_values p.columns q.columns) None (Some (Some p, Some q))

-- of some rows of a table, what each was and what it is
abbrev pub Changes : Type 0
Changes = map.FinMap uuid_cmp (Option Row × Option Row)

-- the rows by which two contents of a table differ
abbrev pub change : Table → Table → Changes
change = map.combine changed_row

-- what a row is after a change, and what it was before
abbrev pub after : Option Row → Option (Option Row × Option Row) → Option Row
after r None = r
after r (Some c) = c.1

abbrev pub before : Option Row → Option (Option Row × Option Row) → Option Row
before r None = r
before r (Some c) = c.0

-- a content with the changes made, and one with them undone
abbrev pub changed_by : Table → Changes → Table
changed_by = map.combine after

abbrev pub undone : Table → Changes → Table
undone = map.combine before

-- the same table by table
abbrev pub change_between : Db → Db → List Changes
change_between old new = map_list (λ e. change e.0 e.1) (zip old new)

abbrev pub all_changed_by : Db → List Changes → Db
all_changed_by db cs = map_list (λ e. changed_by e.0 e.1) (zip db cs)

abbrev pub all_undone : Db → List Changes → Db
all_undone db cs = map_list (λ e. undone e.0 e.1) (zip db cs)

-- whether a commit uses its number
abbrev pub is_changed : Db → Db → Bool
is_changed old new = list_any (λ c. nat_lt 0 (map.len c)) (change_between old new)
