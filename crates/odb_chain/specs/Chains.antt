-- A database with its past: of each table the contents for which marks stand.
use Rattle.std.specs.Prelude.{◌≡◌, ℕ, ◌+◌, ◌-◌, ◌≤◌, nat_le, nat_lt, List, cond, map as map_list, slice_get, slice_set, unwrap_or, zip, Option, Some, None, option_and_then}
use Rattle.std.specs.Ordering.{nat_cmp}
use Rattle.odb_atoms.specs.FinMap as map
use Rattle.odb_tables.specs.Change.{Changes, all_changed_by}
use Rattle.odb_tables.specs.Database.{Db, Table, table_at}

-- a content that is kept, and how many marks stand for it
pub record Standing : Type 0 where
  pub content : Table
  pub marks : ℕ

-- by the versions of the table, each of them the number of changes that it had
abbrev pub Live : Type 0
Live = map.FinMap nat_cmp Standing

-- of each table its version, which is how many changes it had, and what is kept
pub record Chains : Type 0 where
  pub db : Db
  pub versions : List ℕ
  pub live : List Live

-- a mark stands for the content that its table had at the mark's version of it
pub record Mark : Type 0 where
  pub table : ℕ
  pub version : ℕ
  pub content : Table

abbrev pub version : Chains → ℕ → ℕ
version k t = unwrap_or (slice_get k.versions t) 0

abbrev pub live_at : Chains → ℕ → Live
live_at k t = unwrap_or (slice_get k.live t) map.empty

abbrev pub standing : Chains → ℕ → ℕ → Option Standing
standing k t p = map.get (live_at k t) p

abbrev pub marks_of : Option Standing → ℕ
marks_of None = 0
marks_of (Some x) = x.marks

-- how many marks stand at a version
abbrev pub count : Chains → ℕ → ℕ → ℕ
count k t p = marks_of (standing k t p)

-- the content for which the mark stands is kept
abbrev pub IsLive : Chains → Mark → Type 0
IsLive k m = (n : ℕ) × (standing k m.table m.version ≡ Some (record { content = m.content; marks = n }))

-- no version is later than now, and what is kept of now is what the table is now
abbrev pub IsNow : Chains → Type 0
IsNow k = (t p : ℕ) (x : Standing) → standing k t p ≡ Some x → (p ≤ version k t) × (p ≡ version k t → x.content ≡ table_at k.db t)

-- ---- what is done with them

-- no change was made, and no mark
abbrev pub chains_of : Db → Chains
chains_of db = record { db = db; versions = map_list (λ t. 0) db; live = map_list (λ t. map.empty) db }

-- a mark for what the table is now
abbrev pub mark_of : Chains → ℕ → Mark
mark_of k t = record { table = t; version = version k t; content = table_at k.db t }

-- with one mark more for what the table is now
abbrev pub marked : ℕ → Chains → Chains
marked t k = record k { live = slice_set k.live t (map.insert (live_at k t) (version k t) (record { content = table_at k.db t; marks = count k t (version k t) + 1 })) }

abbrev pub one_less : Standing → Option Standing
one_less x = cond (nat_le x.marks 1) None (Some (record x { marks = x.marks - 1 }))

abbrev pub with_standing : Live → ℕ → Option Standing → Live
with_standing l p None = map.remove l p
with_standing l p (Some x) = map.insert l p x

-- with one mark less at a version, which goes with its last one
abbrev pub released : ℕ → ℕ → Chains → Chains
released t p k = record k { live = slice_set k.live t (with_standing (live_at k t) p (option_and_then one_less (standing k t p))) }

abbrev pub next : ℕ → Changes → ℕ
next v c = cond (nat_lt 0 (map.len c)) (v + 1) v

-- with a change made: all that marks stand for stays
abbrev pub absorbed : List Changes → Chains → Chains
absorbed cs k = record { db = all_changed_by k.db cs; versions = map_list (λ e. next e.0 e.1) (zip k.versions cs); live = k.live }
