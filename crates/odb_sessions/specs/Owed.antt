-- Which sessions may be owed something, and what the others ask of tables. [P 10.1, 10.3]
use Rattle.std.specs.Prelude.{◌≡◌, ℕ, Bool, false, ◌==◌, ◌&&◌, if◌then◌else◌, List, [], ◌++◌, length, map, flat_map, Option, Some, None}
use Rattle.std.specs.List.{list_any}
use Rattle.std.specs.BTreeSet.{BTreeSet, contains}
use Rattle.std.specs.Ordering.{eq_by_cmp, nat_cmp}
use Rattle.odb_atoms.specs.FinMap.{get}
use Rattle.odb_chain.specs.Chains.{Chains}
use Rattle.odb_interest.specs.Keys.{Asked, Interests, asked_at}
use Rattle.odb_request.specs.Request.{Request}
use Rattle.odb_service.specs.Session.{Item, Session}
use Rattle.odb_recent.specs.Recent.{recent_of}
use Rattle.odb_sessions.specs.Book.{Book, book_with}
use Rattle.odb_sessions.specs.Marked.{MarkedMonitor, Sessions, Watched, all_seen}
use Rattle.odb_sessions.specs.Quiet.{IsQuietAt}
use Rattle.odb_sessions.specs.Tied.{IsTied}

-- every session that isn't in the set is owed nothing
abbrev pub AreOwed : BTreeSet ℕ → Book → Type 0
AreOwed owed b = (s : ℕ) → contains nat_cmp owed s ≡ false → IsQuietAt b s

-- whether the session is one of these
abbrev pub is_among : ℕ → List ℕ → Bool
is_among s ss = list_any (λ t. eq_by_cmp nat_cmp s t) ss

-- the sessions to which something is posted
abbrev pub addressed : List (ℕ × Item) → List ℕ
addressed ps = map (λ p. p.0) ps

-- of those who aren't in the new set nobody was in the old one, and nobody is one of these
abbrev pub AreAdded : BTreeSet ℕ → BTreeSet ℕ → List ℕ → Type 0
AreAdded old new ss = (s : ℕ) → contains nat_cmp new s ≡ false → (contains nat_cmp old s ≡ false) × (is_among s ss ≡ false)

-- what the machine sees of the chains and of the sessions with their marks, as if there were no commits
abbrev pub book_seen : Chains → Sessions → Book
book_seen k m = book_with k.db (recent_of 0 0) (all_seen m)

-- ---- what sessions ask

-- of each of these requests the table, and the filter
abbrev pub interest_in : List Request → List Asked
interest_in qs = map (λ q. (q.place, q.filter)) qs

-- those of its monitors
abbrev pub interest_of : Session → List Asked
interest_of x = flat_map (λ m. interest_in m.watch.requests) x.monitors

-- none where the session isn't open
abbrev pub interest_if : Option Session → List Asked
interest_if None = []
interest_if (Some x) = interest_of x

-- of each table of a monitor that is kept the filter that is asked
abbrev pub filter_asked : Watched → Asked
filter_asked w = (w.request.place, w.request.filter)

abbrev pub filters_asked : MarkedMonitor → List Asked
filters_asked h = map filter_asked h.tables

abbrev pub table_of : Asked → ℕ
table_of a = a.0

-- a list has these filters in the place of as many others of the same tables, from the place on; the next place is the one after them
abbrev pub IsPut : List Asked → List Asked → ℕ → List Asked → ℕ → Type 0
IsPut old new place fs next = (front middle back : List Asked) → old ≡ front ++ (middle ++ back) → length front ≡ place → map table_of middle ≡ map table_of fs → (new ≡ front ++ (fs ++ back)) × (next ≡ length (front ++ fs))

-- of each other session the index says what it did
abbrev pub KeepsOthers : Interests → Interests → ℕ → Type 0
KeepsOthers old new session = (s : ℕ) → (session == s) ≡ false → asked_at new s ≡ asked_at old s

-- of each session that isn't in the set the index says what it did
abbrev pub KeepsResting : BTreeSet ℕ → Interests → Interests → Type 0
KeepsResting owed old new = (s : ℕ) → contains nat_cmp owed s ≡ false → asked_at new s ≡ asked_at old s

-- of each of these sessions that is in the set the index says nothing, and of all others what it did
abbrev pub ForgetsOwed : BTreeSet ℕ → List ℕ → Interests → Interests → Type 0
ForgetsOwed owed ss old new = (s : ℕ) → asked_at new s ≡ (if contains nat_cmp owed s && list_any (λ t. t == s) ss then [] else asked_at old s)

-- the session is owed nothing, and the index says of it just what its monitors ask
abbrev pub IsAtRest : Interests → Book → ℕ → Type 0
IsAtRest i b s = IsQuietAt b s × (asked_at i s ≡ interest_if (get b.sessions s))

-- so it is with every session that isn't in the set
abbrev pub AreAtRest : BTreeSet ℕ → Interests → Book → Type 0
AreAtRest owed i b = (s : ℕ) → contains nat_cmp owed s ≡ false → IsAtRest i b s

-- the marks are tied to the chains, and every session that isn't in the set is at rest
abbrev pub HangTogether : Chains → Sessions → BTreeSet ℕ → Interests → Type 0
HangTogether k m owed i = IsTied k m × AreAtRest owed i (book_seen k m)
