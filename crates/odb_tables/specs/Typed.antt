-- Databases whose rows are of their schema: of each table its columns, and in each of them a value of its kind.
use Rattle.std.specs.Prelude.{◌≡◌, ℕ, Bool, true, ◌&&◌, ◌==◌, List, length, zip, Some}
use Rattle.std.specs.List.{list_all}
use Rattle.odb_atoms.specs.FinMap as map
use Rattle.odb_atoms.specs.ColType.{has_kind}
use Rattle.odb_atoms.specs.Row.{Row}
use Rattle.odb_atoms.specs.Uuid.{Uuid}
use Rattle.odb_schema.specs.Schema.{Column, Schema, columns_at}
use Rattle.odb_tables.specs.Database.{Db, table_at}

-- a value for each column, of its kind
abbrev pub fits : List Column → Row → Bool
fits cs r = (length r.columns == length cs) && list_all (λ e. has_kind e.0.type e.1) (zip cs r.columns)

-- the schema's tables, and in each of them rows that fit
abbrev pub IsTyped : Schema → Db → Type 0
IsTyped s db = (length db ≡ length s.tables) × ((t : ℕ) (u : Uuid) (r : Row) → map.get (table_at db t) u ≡ Some r → fits (columns_at s t) r ≡ true)
