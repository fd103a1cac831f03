-- How many rows a draft adds to a table and takes from it.
use Rattle.std.specs.Prelude.{ℕ, cond, not, ◌&&◌, is_some, Option}
use Rattle.odb_atoms.specs.FinMap as map
use Rattle.odb_atoms.specs.Row.{Row}
use Rattle.odb_atoms.specs.Uuid.{Uuid}
use Rattle.odb_tables.specs.Database.{Table}

-- 1 where a row that was touched is there and wasn't before
abbrev pub gain : Table → Uuid × Option Row → ℕ
gain t e = cond (is_some e.1 && not (map.contains_key t e.0)) 1 0

-- 1 where it was before and isn't now
abbrev pub loss : Table → Uuid × Option Row → ℕ
loss t e = cond (not (is_some e.1) && map.contains_key t e.0) 1 0
