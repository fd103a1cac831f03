-- The rows of which something may be shown, and what they are compared by.
use Rattle.std.specs.Prelude.{◌≡◌, Bool, not, List, Some, None, option_and_then}
use Rattle.std.specs.BTreeSet.{BTreeSet, contains}
use Rattle.std.specs.FinMap.Entries.{find}
use Rattle.std.specs.List.{IsDistinct, filter, list_any}
use Rattle.std.specs.Map.{keys_of}
use Rattle.std.specs.Ordering.{eq_by_cmp}
use Rattle.odb_atoms.specs.FinMap as finite
use Rattle.odb_atoms.specs.Row.{Row}
use Rattle.odb_atoms.specs.Uuid.{Uuid, uuid_cmp}
use Rattle.odb_cond.specs.Filter.{Filter, TellsApart}
use Rattle.odb_monitor.specs.Represented.Sides.{Pair, shown_at}
use Rattle.odb_monitor.specs.declared.told.Told.{Told}
use Rattle.odb_request.specs.Request.{Request}
use Rattle.odb_tables.specs.Change.{before}
use Rattle.odb_tables.specs.Database.{Table}
use Rattle.odb_tables.specs.Matching.{selected}

-- a row that comes in
abbrev pub fresh_in : Uuid × Row → Uuid × Pair
fresh_in e = (e.0, (None, Some e.1))

-- a row that was changed: as it was, and as the table has it
abbrev pub changed_in : Table → Uuid × Pair → Uuid × Pair
changed_in t e = (e.0, (e.1.0, finite.get t e.0))

-- a row that stayed
abbrev pub stayed_in : Uuid × Row → Uuid × Pair
stayed_in e = (e.0, (Some e.1, Some e.1))

abbrev pub is_changed : List (Uuid × Pair) → Uuid → Bool
is_changed cs u = list_any (eq_by_cmp uuid_cmp u) (keys_of cs)

-- the rows whose identifier isn't among the keys
abbrev pub others : BTreeSet Uuid → List (Uuid × Row) → List (Uuid × Row)
others keys rows = filter (λ e. not (contains uuid_cmp keys e.0)) rows

-- the rows that weren't changed
abbrev pub unchanged : List (Uuid × Pair) → List (Uuid × Row) → List (Uuid × Row)
unchanged cs rows = filter (λ e. not (is_changed cs e.0)) rows

-- each row of the table that the filter selects, once
abbrev pub ListsSelected : Filter → List (Uuid × Row) → Table → Type 0
ListsSelected f rows t = (finite.from_entries rows ≡ selected f t) × IsDistinct (eq_by_cmp uuid_cmp) (keys_of rows)

-- rows of the table, each once, and of the others each is selected by both filters or by neither
abbrev pub ListsApart : Filter → Filter → List (Uuid × Row) → Table → Type 0
ListsApart f g rows t = (d : Filter) × ListsSelected d rows t × TellsApart d f g

-- what is shown of these rows is all that is shown, between the table then and the table now
abbrev pub Covers : List (Uuid × Pair) → Bool → Told → Request → Table → Table → Type 0
Covers es first w q then now =
    IsDistinct (eq_by_cmp uuid_cmp) (keys_of es) × ((u : Uuid) → option_and_then (shown_at first w q u) (find uuid_cmp u es) ≡ shown_at first w q u (finite.get then u, finite.get now u))

-- the table as it was, by the rows that were changed
abbrev pub WasSo : List (Uuid × Pair) → Table → Table → Type 0
WasSo cs then now = (u : Uuid) → finite.get then u ≡ before (finite.get now u) (find uuid_cmp u cs)
