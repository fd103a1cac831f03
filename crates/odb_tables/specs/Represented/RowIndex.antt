-- Indexes of the rows of tables: that no pair is lacking, and what a change makes of that.
use Rattle.std.specs.Prelude.{◌≡◌, ◌⊎◌, ℕ, Bool, true, List, Option, Some, slice_get, unwrap_or}
use Rattle.std.specs.List.{AllByRecursion, IsDistinct, list_any}
use Rattle.std.specs.Ordering.{eq_by_cmp}
use Rattle.odb_atoms.specs.FinMap as map
use Rattle.odb_atoms.specs.Row.{Row}
use Rattle.odb_atoms.specs.Uuid.{Uuid, uuid_cmp}
use Rattle.odb_tables.specs.Change.{Changes, before}
use Rattle.odb_tables.specs.Database.{Db, Table, table_at}
use Rattle.odb_tables.specs.Represented.Facet.{HasTagsNow, is_tag_now}
use Rattle.odb_tables.specs.Represented.Overlay.{passes_now}
use Rattle.odb_tables.specs.Represented.Pairs.{Pairs, has}
use Rattle.odb_tables.specs.declared.facet.Facet.{Facet}
use Rattle.odb_tables.specs.declared.row_index.RowIndex.{RowIndex}
use Rattle.odb_tables.specs.declared.row_index.Side.{Side}
use Rattle.odb_tables.specs.declared.row_index.Side.TheVariants.{New, Old}

-- each row of the table stands under each of its tags
abbrev pub LacksNothing : RowIndex → Table → Type 0
LacksNothing k t = (u : Uuid) → HasTagsNow k.facet k.pairs u (map.get t u)

-- what the change says of the rows before is what the table has
abbrev pub IsOf : Table → Changes → Type 0
IsOf t c = (u : Uuid) → before (map.get t u) (map.get c u) ≡ map.get t u

-- a row that stood under each of its tags before the change does so after it
abbrev pub AddsNewTagsOf : Facet → Pairs → Pairs → Uuid → Option Row × Option Row → Type 0
AddsNewTagsOf f old new u d = HasTagsNow f old u d.0 → HasTagsNow f new u d.1

-- so does each row that is changed
abbrev pub AddsNewTags : Facet → Pairs → Pairs → Changes → Type 0
AddsNewTags f old new c = (u : Uuid) (d : Option Row × Option Row) → map.get c u ≡ Some d → AddsNewTagsOf f old new u d

-- each row that the change makes stands under each of its tags
abbrev pub HasNew : RowIndex → Changes → Type 0
HasNew k c = (u : Uuid) (d : Option Row × Option Row) → map.get c u ≡ Some d → HasTagsNow k.facet k.pairs u d.1

-- of the same table and the same facet
abbrev pub IsOfSame : RowIndex → RowIndex → Type 0
IsOfSame k n = (n.table ≡ k.table) × (n.facet ≡ k.facet)

-- of a change, the side whose pairs go, and the side whose pairs stay
abbrev pub gone : Side → Option Row × Option Row → Option Row
gone Old d = d.0
gone New d = d.1

abbrev pub stays : Side → Option Row × Option Row → Option Row
stays Old d = d.1
stays New d = d.0

-- pairs go out of the rows that are changed alone, and none under a tag of the side that stays
abbrev pub CutsAll : Facet → Pairs → Pairs → Side → Changes → Type 0
CutsAll f old new side c = (tag v : Uuid) → has old tag v ≡ true → ((d : Option Row × Option Row) → map.get c v ≡ Some d → is_tag_now f tag (stays side d) ≡ true) → has new tag v ≡ true

-- each row of the table that passes is among them
abbrev pub Covers : List Uuid → (Uuid → Row → Bool) → Table → Type 0
Covers keys p t = (u : Uuid) → passes_now p u (map.get t u) ≡ true → list_any (eq_by_cmp uuid_cmp u) keys ≡ true

-- so it is, and none of them stands twice
abbrev pub Suffices : List Uuid → (Uuid → Row → Bool) → Table → Type 0
Suffices keys p t = IsDistinct (eq_by_cmp uuid_cmp) keys × Covers keys p t

-- every key stays
abbrev pub KeepsKeys : List Uuid → List Uuid → Type 0
KeepsKeys old new = (u : Uuid) → list_any (eq_by_cmp uuid_cmp u) old ≡ true → list_any (eq_by_cmp uuid_cmp u) new ≡ true

-- ---- the rows that a draft touched

-- the rows of these identifiers that the table has stand under each of their tags
abbrev pub HasListed : List Uuid → RowIndex → Table → Type 0
HasListed us k now = (u : Uuid) → list_any (eq_by_cmp uuid_cmp u) us ≡ true → HasTagsNow k.facet k.pairs u (map.get now u)

-- each row of a table stands under each of its tags, and every other row is as it was
abbrev pub HasChanged : RowIndex → Table → Table → Type 0
HasChanged k old now = (t : Table) × LacksNothing k t × ((u : Uuid) → (map.get now u ≡ map.get t u) ⊎ (map.get now u ≡ map.get old u))

-- ---- a database

abbrev pub changes_at : List Changes → ℕ → Changes
changes_at cs t = unwrap_or (slice_get cs t) map.empty

abbrev pub IsIndexOf : Db → RowIndex → Type 0
IsIndexOf db k = LacksNothing k (table_at db k.table)

abbrev pub IsReady : Db → List Changes → RowIndex → Type 0
IsReady db cs k = LacksNothing k (table_at db k.table) × HasNew k (changes_at cs k.table)

abbrev pub AreIndexesOf : Db → List RowIndex → Type 0
AreIndexesOf db = AllByRecursion (IsIndexOf db)

abbrev pub AreReady : Db → List Changes → List RowIndex → Type 0
AreReady db cs = AllByRecursion (IsReady db cs)

-- as it is where no table has a row
abbrev pub AreForNoRows : List RowIndex → Type 0
AreForNoRows = AllByRecursion (λ k. LacksNothing k map.empty)
