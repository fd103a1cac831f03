-- Which sessions are to be found by which keys of which tables, and what a call changes of that.
use Rattle.std.specs.Prelude.{◌≡◌, ℕ, Bool, true, not, ◌&&◌, ◌||◌, ◌==◌, if◌then◌else◌, nat_lt, List, length}
use Rattle.std.specs.BTreeMap.{get}
use Rattle.odb_atoms.specs.FinMap.{entries_of, len}
use Rattle.std.specs.Ordering.{nat_cmp}
use Rattle.odb_interest.specs.Keys.{Asked, Interests, Key, asked_at, change_at}
use Rattle.odb_interest.specs.Represented.Found.{any_below, is_found}
use Rattle.odb_interest.specs.Represented.Key.{held, is_asked, same_key}
use Rattle.odb_interest.specs.Represented.Watched.{watches}
use Rattle.odb_interest.specs.declared.index.SessionsByKey.{SessionsByKey}
use Rattle.odb_tables.specs.Change.{Changes}

abbrev pub finds : SessionsByKey → ℕ → Key → ℕ → Bool
finds x t k s = held (λ w. watches w k s) (get nat_cmp x.tables t)

abbrev pub IsUnchanged : SessionsByKey → SessionsByKey → Type 0
IsUnchanged old new = (t : ℕ) (k : Key) (s : ℕ) → finds new t k s ≡ finds old t k s

-- the session is found by the key of the table now, or isn't, and all else stays
abbrev pub Puts : SessionsByKey → SessionsByKey → ℕ → Key → ℕ → Bool → Type 0
Puts old new table key session b = (t : ℕ) (k : Key) (s : ℕ) → finds new t k s ≡ (if (table == t) && (same_key k key && (session == s)) then b else finds old t k s)

-- the place is one of the session's at the table
abbrev pub is_own : ℕ → ℕ → ℕ → ℕ → Bool
is_own table session t s = (table == t) && (session == s)

-- it is found by the keys that pass the test too, and all else stays
abbrev pub Covers : SessionsByKey → SessionsByKey → ℕ → (Key → Bool) → ℕ → Type 0
Covers old new table test session = (t : ℕ) (k : Key) (s : ℕ) → finds new t k s ≡ (finds old t k s || (is_own table session t s && test k))

-- it is found by some of these keys too
abbrev pub CoversSome : SessionsByKey → SessionsByKey → ℕ → (Key → Bool) → ℕ → Type 0
CoversSome old new table test session = (t : ℕ) (k : Key) (s : ℕ) → (some : Bool) × (finds new t k s ≡ (finds old t k s || (some && (is_own table session t s && test k))))

-- it is found by keys that pass the test too, by each that doesn't pass the other
abbrev pub CoversLacking : SessionsByKey → SessionsByKey → ℕ → (Key → Bool) → (Key → Bool) → ℕ → Type 0
CoversLacking old new table test other session = (t : ℕ) (k : Key) (s : ℕ) → (some : Bool) × (test k ≡ true → (some || other k) ≡ true) × (finds new t k s ≡ (finds old t k s || (some && (is_own table session t s && test k))))

-- it is found by the keys that pass the test no more, but for those that the others have
abbrev pub Uncovers : SessionsByKey → SessionsByKey → ℕ → (Key → Bool) → ℕ → List Asked → Type 0
Uncovers old new table test session others = (t : ℕ) (k : Key) (s : ℕ) → finds new t k s ≡ (finds old t k s && not (is_own table session t s && (test k && not (is_asked others t k))))

-- it is found by the keys of these filters no more
abbrev pub UncoversAll : SessionsByKey → SessionsByKey → ℕ → List Asked → Type 0
UncoversAll old new session fs = (t : ℕ) (k : Key) (s : ℕ) → finds new t k s ≡ (finds old t k s && not ((session == s) && is_asked fs t k))

-- it is found by the keys of these filters of the table no more
abbrev pub UncoversAt : SessionsByKey → SessionsByKey → ℕ → ℕ → List Asked → Type 0
UncoversAt old new table session fs = (t : ℕ) (k : Key) (s : ℕ) → finds new t k s ≡ (finds old t k s && not (is_own table session t s && is_asked fs t k))

-- it is found no more by the keys that pass the test, of those by which another index finds it
abbrev pub UncoversFound : SessionsByKey → SessionsByKey → ℕ → (Key → Bool) → ℕ → SessionsByKey → Type 0
UncoversFound old new table test session found = (t : ℕ) (k : Key) (s : ℕ) → finds new t k s ≡ (finds old t k s && not (is_own table session t s && (test k && finds found table k session)))

-- a session is found by the keys of the filters that it asks
abbrev pub Indexes : SessionsByKey → Interests → Type 0
Indexes x v = (t : ℕ) (k : Key) (s : ℕ) → finds x t k s ≡ is_asked (asked_at v s) t k

-- the session is found for a change of the table
abbrev pub finds_for : SessionsByKey → ℕ → Changes → ℕ → Bool
finds_for x t d s = nat_lt 0 (len d) && held (λ w. is_found w (entries_of d) s) (get nat_cmp x.tables t)

-- the session is found for the change of a database
abbrev pub finds_among : SessionsByKey → List Changes → ℕ → Bool
finds_among x cs s = any_below (length cs) (λ t. finds_for x t (change_at cs t) s)
