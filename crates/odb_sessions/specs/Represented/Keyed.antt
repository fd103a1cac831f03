-- How the open sessions lie in a slab, each under the key that an index has at its number.
use Rattle.std.specs.Prelude.{◌≡◌, ℕ, List, IsSome, Option, Some, None, slice_index_or}
use Rattle.std.specs.BTreeMap.{is_at}
use Rattle.std.specs.Map.{lookup}
use Rattle.std.specs.Ordering.{nat_cmp}
use Rattle.odb_atoms.specs.FinMap as finite
use Rattle.odb_sessions.specs.Marked.{MarkedSession, Sessions}

-- the key of a number
abbrev pub key_of : List (ℕ × ℕ) → ℕ → Option ℕ
key_of index number = lookup (is_at (nat_cmp number)) index

-- the session under a key
abbrev pub session_under : List (Option MarkedSession) → ℕ → Option MarkedSession
session_under slots key = slice_index_or slots key None

-- at each number of the index what lies under its key
abbrev pub sessions_under : List (ℕ × ℕ) → List (Option MarkedSession) → Sessions
sessions_under index slots = finite.map_entries (λ number key. session_under slots key) (finite.from_entries index)

module _ (key_at : ℕ → Option ℕ) (lies : ℕ → Option MarkedSession) where
  -- a session lies under the key of each number
  abbrev pub AllLie : Type 0
  AllLie = (q k : ℕ) → key_at q ≡ Some k → IsSome (lies k)

  -- no two numbers have one key
  abbrev pub AreApart : Type 0
  AreApart = (q r k : ℕ) → key_at q ≡ Some k → key_at r ≡ Some k → q ≡ r

  -- each session that lies in the slab has a number
  abbrev pub AreNumbered : Type 0
  AreNumbered = (k : ℕ) → IsSome (lies k) → (q : ℕ) × (key_at q ≡ Some k)

  abbrev pub Agree : Type 0
  Agree = AllLie × AreApart × AreNumbered

-- the numbers of the index and the sessions of the slab belong together, each to one
abbrev pub IsKeyed : List (ℕ × ℕ) → List (Option MarkedSession) → Type 0
IsKeyed index slots = Agree (key_of index) (session_under slots)
