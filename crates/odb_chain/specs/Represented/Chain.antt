-- The marked versions and the old rows of one table, as the code has them, and what they stand for.
use Rattle.std.specs.Prelude.{◌≡◌, ◌⊎◌, ℕ, zero, suc, ◌+◌, ◌-◌, ◌^◌, ◌<◌, Bool, true, false, cond, nat_eq, nat_le, nat_lt, List, [], ◌∷◌, ◌++◌, length, map as map_list, slice_get, unwrap_or, zip, is_some, Option, Some, None}
use Rattle.odb_atoms.specs.FinMap as map
use Rattle.odb_atoms.specs.Uuid.{Uuid}
use Rattle.odb_tables.specs.Change.{Changes, before}
use Rattle.odb_tables.specs.Database.{Db, Table, table_at}
use Rattle.odb_chain.specs.Chains.{Chains, Live, Standing}
use Rattle.odb_chain.specs.OldRows.{Rows, content_at, is_reached}
use Rattle.odb_chain.specs.Represented.Log.{AllFrom, Recorded}
use Rattle.odb_chain.specs.Represented.MarkedVersions.{IsPast, is_marked}

-- how many changes the table had, the versions before that which have marks, with them, how many marks are at that, the old rows, the log of them, and whether there is room for one marked version more
pub record Chain : Type 0 where
  pub version : ℕ
  pub live : List (ℕ × ℕ)
  pub fresh : ℕ
  pub rows : Rows
  pub log : List Recorded
  pub room : Bool

abbrev pub here : ℕ → ℕ → List (ℕ × ℕ)
here v zero = []
here v (suc n) = (v, suc n) ∷ []

abbrev pub marked_versions : Chain → List (ℕ × ℕ)
marked_versions c = c.live ++ here c.version c.fresh

abbrev pub stands : Table → Rows → ℕ × ℕ → ℕ × Standing
stands t rows e = (e.0, record { content = content_at e.0 t rows; marks = e.1 })

abbrev pub live_of : Table → Chain → Live
live_of t c = map.from_entries (map_list (stands t c.rows) (marked_versions c))

abbrev pub nothing_kept : Chain
nothing_kept = record { version = 0; live = []; fresh = 0; rows = map.empty; log = []; room = false }

abbrev pub chain_at : List Chain → ℕ → Chain
chain_at cs t = unwrap_or (slice_get cs t) nothing_kept

abbrev pub shown : Db → List Chain → Chains
shown db cs = record {
  db = db;
  versions = map_list (λ c. c.version) cs;
  live = map_list (λ e. live_of e.0 e.1) (zip db cs);
}

-- ---- what is always so

-- the versions come after the first one, and before that of now, and have marks
abbrev pub AllAfter : ℕ → List (ℕ × ℕ) → Type 0
AllAfter p [] = Unit {0}
AllAfter p (e ∷ es) = (p < e.0) × AllAfter p es

abbrev pub AreRising : ℕ → List (ℕ × ℕ) → Type 0
AreRising v [] = Unit {0}
AreRising v (e ∷ es) = (e.0 < v) × (0 < e.1) × AllAfter e.0 es × AreRising v es

-- each version comes after those before it
abbrev pub AreApart : List (ℕ × ℕ) → Type 0
AreApart [] = Unit {0}
AreApart (e ∷ es) = AllAfter e.0 es × AreApart es

abbrev pub IsChainOf : Table → Chain → Type 0
IsChainOf t c = (u : Uuid) → IsPast c.version (map.get t u) (map.get c.rows u)

-- the marked versions are in order, and the old rows are of the past
abbrev pub IsKeptOf : Table → Chain → Type 0
IsKeptOf t c = AreRising c.version c.live × IsChainOf t c

abbrev pub AreChainsOf : Db → List Chain → Type 0
AreChainsOf db cs = (length cs ≡ length db) × ((t : ℕ) → IsKeptOf (table_at db t) (chain_at cs t))

-- ---- one table alone

-- whether the next marked version takes no memory
abbrev pub is_roomy : ℕ → Bool → Bool
is_roomy zero room = true
is_roomy (suc n) room = room

-- with one mark less at a version
abbrev pub fewer : ℕ → List (ℕ × ℕ) → List (ℕ × ℕ)
fewer p [] = []
fewer p (e ∷ es) = cond (nat_eq p e.0) (cond (nat_le e.1 1) es ((e.0, e.1 - 1) ∷ es)) (e ∷ fewer p es)

-- the earliest marked version
abbrev pub earliest : List (ℕ × ℕ) → Option ℕ
earliest [] = None
earliest (e ∷ es) = Some e.0

-- nothing is recorded before the earliest marked version, and where there is none there are no old rows
abbrev pub IsForgotten : Option ℕ → Rows → List Recorded → Type 0
IsForgotten None rows ns = rows ≡ map.empty
IsForgotten (Some p) rows ns = AllFrom p ns

-- the earliest marked version is the same, with all old rows; or what comes before it is forgotten
abbrev pub HasForgotten : Chain → Chain → Type 0
HasForgotten old new = ((earliest (marked_versions new) ≡ earliest (marked_versions old)) × (new.rows ≡ old.rows) × (new.log ≡ old.log)) ⊎ IsForgotten (earliest (marked_versions new)) new.rows new.log

-- what a change says of the rows before it is what the table has
abbrev pub IsOf : Table → Changes → Type 0
IsOf t d = (u : Uuid) → before (map.get t u) (map.get d u) ≡ map.get t u

-- of the rows that a change names it is kept what they were at each marked version, and there is room for one more
abbrev pub IsReadyFor : Changes → Chain → Type 0
IsReadyFor d c = (nat_lt 0 (map.len d) ≡ true → (is_roomy c.fresh c.room ≡ true) × (c.version < 2 ^ 64 - 1))
    × ((p : ℕ) → is_marked p (marked_versions c) ≡ true → (u : Uuid) → is_some (map.get d u) ≡ true → is_reached p (map.get c.rows u) ≡ true)

-- the marks stay, and where the table is t so does what they stand for
abbrev pub StandsAsBefore : Table → Chain → Chain → Type 0
StandsAsBefore t old new = (new.version ≡ old.version) × (new.live ≡ old.live) × (new.fresh ≡ old.fresh)
    × ((p : ℕ) → is_marked p (marked_versions old) ≡ true → content_at p t new.rows ≡ content_at p t old.rows)
    × (IsChainOf t old → IsChainOf t new)

-- ---- all tables

abbrev pub change_at : List Changes → ℕ → Changes
change_at ds t = unwrap_or (slice_get ds t) map.empty

-- whether the change names a row
abbrev pub is_moved : Changes → Bool
is_moved d = nat_lt 0 (map.len d)

abbrev pub moved_at : List Bool → ℕ → Bool
moved_at ms t = unwrap_or (slice_get ms t) false

-- one version later where the table is changed, with the same marked versions and old rows
abbrev pub IsStepped : Bool → Chain → Chain → Type 0
IsStepped moved old new = (new.version ≡ cond moved (old.version + 1) old.version) × (marked_versions new ≡ marked_versions old) × (new.rows ≡ old.rows) × (AreRising old.version old.live → AreRising new.version new.live)
