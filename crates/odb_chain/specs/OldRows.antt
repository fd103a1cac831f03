-- The old rows of a table: of each row that changed, what it was up to which version. A version of a table is the number of changes that it had.
use Rattle.std.specs.Prelude.{ℕ, Bool, false, nat_le, List, [], ◌∷◌, Option, Some, None, if◌then◌else◌}
use Rattle.std.specs.List.{list_any}
use Rattle.odb_atoms.specs.FinMap as map
use Rattle.odb_atoms.specs.Row.{Row}
use Rattle.odb_atoms.specs.Uuid.{uuid_cmp}
use Rattle.odb_tables.specs.Database.{Table}

-- what a row was, the earliest first, each up to its version
abbrev pub History : Type 0
History = List (ℕ × Option Row)

abbrev pub Rows : Type 0
Rows = map.FinMap uuid_cmp History

-- what the row was at a version, where it is r now
abbrev pub at : ℕ → Option Row → History → Option Row
at p r [] = r
at p r (e ∷ es) = if nat_le p e.0 then e.1 else at p r es

abbrev pub at_version : ℕ → Option Row → Option History → Option Row
at_version p r None = r
at_version p r (Some h) = at p r h

-- what a table was at a version, where it is t now
abbrev pub content_at : ℕ → Table → Rows → Table
content_at p t rows = map.combine (at_version p) t rows

-- whether it is kept what the row was at the version, so that the row may change
abbrev pub reaches : ℕ → History → Bool
reaches p h = list_any (λ e. nat_le p e.0) h

abbrev pub is_reached : ℕ → Option History → Bool
is_reached p None = false
is_reached p (Some h) = reaches p h
