-- What a commit replaced, and the database with it put back.
use Rattle.std.specs.Prelude.{ℕ, suc, nat_lt, cond, List, [], ◌∷◌, ◌++◌, unwrap_or, Option, Some, None}
use Rattle.std.specs.FinMap.Entries.{find}
use Rattle.std.specs.Ordering.{nat_cmp}
use Rattle.odb_atoms.specs.FinMap as map
use Rattle.odb_atoms.specs.Row.{Row}
use Rattle.odb_atoms.specs.Uuid.{uuid_cmp}
use Rattle.odb_tables.specs.Change.{Changes}
use Rattle.odb_tables.specs.Database.{Db, Table}

-- of some rows of a table, what each of them was
abbrev pub Olds : Type 0
Olds = map.FinMap uuid_cmp (Option Row)

-- by the places of their tables
abbrev pub Undo : Type 0
Undo = List (ℕ × Olds)

-- what the rows were that a change of a table names
abbrev pub olds : Changes → Olds
olds = map.map_entries (λ u c. Some c.0)

-- of a table without changes nothing is kept
abbrev pub undo_at : ℕ → Changes → Undo
undo_at k c = cond (nat_lt 0 (map.len c)) ((k, olds c) ∷ []) []

abbrev pub undo_from : ℕ → List Changes → Undo
undo_from k [] = []
undo_from k (c ∷ cs) = undo_at k c ++ undo_from (suc k) cs

-- what a change of a database replaces
abbrev pub undo_of : List Changes → Undo
undo_of = undo_from 0

abbrev pub olds_at : Undo → ℕ → Olds
olds_at u k = unwrap_or (find nat_cmp k u) map.empty

-- what a row was, where it is r now
abbrev pub old_or : Option Row → Option (Option Row) → Option Row
old_or r None = r
old_or r (Some o) = o

abbrev pub undone_by : Table → Olds → Table
undone_by = map.combine old_or

abbrev pub undone_from : ℕ → Db → Undo → Db
undone_from k [] u = []
undone_from k (t ∷ ts) u = undone_by t (olds_at u k) ∷ undone_from (suc k) ts u

-- a database with what a commit replaced put back
abbrev pub all_undone_by : Db → Undo → Db
all_undone_by = undone_from 0

-- what a table was, where it is t now, before commits that replaced these, the newest first
abbrev pub table_ago : ℕ → List Undo → Table → Table
table_ago k [] t = t
table_ago k (u ∷ us) t = table_ago k us (undone_by t (olds_at u k))
