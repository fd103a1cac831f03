-- Identifiers that were found, in no order: those of the rows of a table, each of them once.
use Rattle.std.specs.Prelude.{◌≡◌, Bool, cond, not, ◌&&◌, ◌++◌, List, Some, None}
use Rattle.std.specs.List.{IsDistinct, list_any}
use Rattle.std.specs.Ordering.{eq_by_cmp}
use Rattle.odb_atoms.specs.FinMap as map
use Rattle.odb_atoms.specs.Row.{Row}
use Rattle.odb_atoms.specs.Uuid.{Uuid, uuid_cmp}
use Rattle.odb_tables.specs.Database.{Table}
use Rattle.odb_tables.specs.Represented.Overlay.{Touched, passes_now}

-- the rows of a table but for those that were touched
abbrev pub untouched : Touched → Table → Table
untouched o t = map.map_entries (λ u r. cond (map.contains_key o u) None (Some r)) t

-- of the rows that were touched, those that weren't taken out
abbrev pub standing : Touched → Table
standing o = map.map_entries (λ u now. now) o

-- the rows that pass the test
abbrev pub passing : (Uuid → Row → Bool) → Table → Table
passing p t = map.map_entries (λ u r. cond (p u r) (Some r) None) t

-- the table has the row, it passes the test, and wasn't touched
abbrev pub is_there : (Uuid → Row → Bool) → Touched → Table → Uuid → Bool
is_there p o t u = passes_now p u (map.get t u) && not (map.contains_key o u)

-- each row of the table once, and nothing else
abbrev pub Lists : List Uuid → Table → Type 0
Lists us t = IsDistinct (eq_by_cmp uuid_cmp) us × ((q : Uuid) → list_any (eq_by_cmp uuid_cmp q) us ≡ map.contains_key t q)

-- after the old list stand the rows of the table
abbrev pub Appends : List Uuid → List Uuid → Table → Type 0
Appends old new t = (us : List Uuid) × (new ≡ old ++ us) × Lists us t
