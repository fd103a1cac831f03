-- Changes of a database: what they say of the rows before is what it has.
use Rattle.std.specs.Prelude.{◌≡◌, ℕ, List, length, slice_get, Some}
use Rattle.odb_atoms.specs.FinMap as map
use Rattle.odb_atoms.specs.Uuid.{Uuid}
use Rattle.odb_tables.specs.Change.{Changes, before}
use Rattle.odb_tables.specs.Database.{Db, table_at}

-- a change for each table, and of each row the one that the table has
abbrev pub IsChangeOf : Db → List Changes → Type 0
IsChangeOf db cs = (length cs ≡ length db) × ((t : ℕ) (c : Changes) → slice_get cs t ≡ Some c → (u : Uuid) → before (map.get (table_at db t) u) (map.get c u) ≡ map.get (table_at db t) u)
