-- Tables that are known to be as they were.
use Rattle.std.specs.Prelude.{◌≡◌, ℕ, Bool, true, false, List, slice_get, slice_index_or, unwrap_or}
use Rattle.odb_atoms.specs.FinMap as finite
use Rattle.odb_tables.specs.Change.{Changes}
use Rattle.odb_tables.specs.Database.{Db, table_at}

-- whether there is a mark at a table's place
abbrev pub is_marked : List Bool → ℕ → Bool
is_marked marks t = slice_index_or marks t false

-- what a change has of the table at a place
abbrev pub change_at : List Changes → ℕ → Changes
change_at cs t = unwrap_or (slice_get cs t) finite.empty

-- each table that is marked is the same in both databases
abbrev pub AreSame : List Bool → Db → Db → Type 0
AreSame marks old new = (t : ℕ) → is_marked marks t ≡ true → table_at new t ≡ table_at old t

-- what is marked now was marked before, and has no row in the change
abbrev pub AreLeft : (old new : List Bool) → List Changes → Type 0
AreLeft old new cs = (t : ℕ) → is_marked new t ≡ true → (is_marked old t ≡ true) × (change_at cs t ≡ finite.empty)
