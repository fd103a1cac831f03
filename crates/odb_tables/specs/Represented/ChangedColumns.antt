-- In which columns of a draft's tables rows may have other values than before.
use Rattle.std.specs.Prelude.{◌≡◌, ℕ, Bool, true, false, ◌||◌, nat_eq, List, length, slice_get, unwrap_or, option_map}
use Rattle.std.specs.List.{list_any}
use Rattle.odb_tables.specs.Database.{Db}
use Rattle.odb_tables.specs.Draft.{KeepsColumn}
use Rattle.odb_tables.specs.Represented.Draft.{all_overlaid}
use Rattle.odb_tables.specs.Represented.Overlay.{Touched}
use Rattle.odb_tables.specs.declared.changed_columns.ChangedColumns.{ChangedColumns}

abbrev pub may_change : ChangedColumns → ℕ → Bool
may_change c p = c.all || list_any (nat_eq p) c.places.items

-- what may change by this may change by that
abbrev pub IsWithin : ChangedColumns → ChangedColumns → Type 0
IsWithin c d = (p : ℕ) → may_change d p ≡ false → may_change c p ≡ false

-- the same in the table at a place
abbrev pub may_change_at : List ChangedColumns → ℕ → ℕ → Bool
may_change_at cs t p = unwrap_or (option_map (λ c. may_change c p) (slice_get cs t)) true

-- of what may not change nothing did
abbrev pub KeepsOthers : Db → Db → List ChangedColumns → Type 0
KeepsOthers old now cs = (t p : ℕ) → may_change_at cs t p ≡ false → KeepsColumn old now t p

-- what a draft is to be: each table has rows that were touched and columns that may have changed, and nothing else did
abbrev pub IsKept : Db → List Touched → List ChangedColumns → Type 0
IsKept db os cs = (length os ≡ length db) × ((length cs ≡ length db) × KeepsOthers db (all_overlaid db os) cs)
