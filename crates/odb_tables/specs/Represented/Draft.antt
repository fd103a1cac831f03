-- What a draft of the code stands for: a database, and over it the rows that were touched.
use Rattle.std.specs.Prelude.{ℕ, List, [], ◌∷◌, map as map_list, slice_get, unwrap_or, zip, Option, Some, None}
use Rattle.odb_atoms.specs.FinMap as map
use Rattle.odb_atoms.specs.FinSet as set
use Rattle.odb_atoms.specs.Row.{Row}
use Rattle.odb_atoms.specs.Uuid.{uuid_cmp}
use Rattle.odb_tables.specs.Database.{Db, Table}
use Rattle.odb_tables.specs.Represented.Overlay.{Touched}

-- what a row is where this is over it
abbrev pub laid : Option Row → Option (Option Row) → Option Row
laid r None = r
laid r (Some now) = now

abbrev pub overlaid : Table → Touched → Table
overlaid = map.combine laid

abbrev pub all_overlaid : Db → List Touched → Db
all_overlaid db os = map_list (λ e. overlaid e.0 e.1) (zip db os)

abbrev pub if_none : Option Row → Option (Unit {0})
if_none None = Some tt
if_none (Some r) = None

-- the identifiers of the rows that were taken out
abbrev pub taken_out : Touched → set.FinSet uuid_cmp
taken_out o = map.map_entries (λ u now. if_none now) o

-- what was touched of the table at a place
abbrev pub touched_at : List Touched → ℕ → Touched
touched_at os k = unwrap_or (slice_get os k) map.empty

-- ---- changes that aren't made yet lie under it

-- a table with what is put over it, if something is
abbrev pub ground : Table → Option Touched → Table
ground t None = t
ground t (Some o) = overlaid t o

-- the same table by table, as far as there is something
abbrev pub grounds : Db → List Touched → Db
grounds [] os = []
grounds (t ∷ ts) [] = t ∷ ts
grounds (t ∷ ts) (o ∷ os) = overlaid t o ∷ grounds ts os
