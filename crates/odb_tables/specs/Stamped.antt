-- Versions: what a commit makes of the rows that it changes (RFC 7047, section 3.2, `_version`). [P 6.3]
use Rattle.std.specs.Prelude.{cond, map as map_list, zip, Option, Some, None}
use Rattle.odb_atoms.specs.FinMap as map
use Rattle.odb_atoms.specs.Row.{Row}
use Rattle.odb_atoms.specs.Uuid.{Uuid}
use Rattle.odb_atoms.specs.Value.{same_values}
use Rattle.odb_tables.specs.Database.{Db, Table}

abbrev pub with_number : Uuid → Row → Row
with_number number r = record r { version = number }

-- the row with the number, unless the old table has it with the same columns
abbrev pub stamped_row : Uuid → Option Row → Row → Row
stamped_row number None r = with_number number r
stamped_row number (Some old) r = cond (same_values old.columns r.columns) old (with_number number r)

abbrev pub stamped_table : Uuid → Table × Table → Table
stamped_table number e = map.map_entries (λ u r. Some (stamped_row number (map.get e.0 u) r)) e.1

-- the number of the commit as `_version` of each row that is new or has another value in a column
abbrev pub stamped : Uuid → Db → Db → Db
stamped number old new = map_list (stamped_table number) (zip old new)
