-- How the marks of sessions hang together with the chains: each is live, and the chains count these marks and no others; and how sessions hang together that ask the same.
use Rattle.std.specs.Prelude.{◌≡◌, ℕ, ◌+◌, ◌<◌, ◌≤◌, List, [], ◌∷◌, flat_map, length, Some}
use Rattle.odb_atoms.specs.FinMap.{entries_of, get}
use Rattle.odb_chain.specs.Chains.{Chains, IsNow, Live, Mark, Standing, count, standing}
pub use Rattle.odb_chain.specs.Marks.{AreLive, bit, is_at, uses}
use Rattle.odb_sessions.specs.Marked.{MarkedSession, Sessions, marks_of}
use Rattle.odb_sessions.specs.Watches.{AreAlike}

-- the marks of all sessions are live
abbrev pub AreAllLive : Chains → Sessions → Type 0
AreAllLive k m = (s : ℕ) (x : MarkedSession) → get m s ≡ Some x → AreLive k (marks_of x)

-- the sum of a weight over entries
abbrev pub total : {X : Type 0} → (X → ℕ) → List (ℕ × X) → ℕ
total w [] = 0
total w (e ∷ es) = w e.1 + total w es

-- how many marks of sessions stand at a version of a table
abbrev pub used : ℕ → ℕ → Sessions → ℕ
used t p m = total (λ x. uses t p (marks_of x)) (entries_of m)

abbrev pub IsTied : Chains → Sessions → Type 0
IsTied k m = IsNow k × ((t p : ℕ) → count k t p ≡ used t p m) × AreAllLive k m × AreAlike m

-- ---- marks that are lent

abbrev pub entry_marks : ℕ × MarkedSession → List Mark
entry_marks e = marks_of e.1

-- those of all sessions, by the sessions' numbers
abbrev pub all_marks : Sessions → List Mark
all_marks m = flat_map entry_marks (entries_of m)

-- ---- marks that are released

-- the marks are live, and counted
abbrev pub HasAll : Chains → List Mark → Type 0
HasAll k ms = AreLive k ms × ((t p : ℕ) → uses t p ms ≤ count k t p)

-- where marks are left, the content stays
abbrev pub KeepsContents : Chains → Chains → Type 0
KeepsContents old new = (t p : ℕ) (x : Standing) → standing old t p ≡ Some x → 0 < count new t p → standing new t p ≡ Some (record { content = x.content; marks = count new t p })

-- without these marks, and with all others
abbrev pub Frees : Chains → Chains → List Mark → Type 0
Frees old new ms = (new.db ≡ old.db) × (new.versions ≡ old.versions) × ((t p : ℕ) → count old t p ≡ count new t p + uses t p ms) × KeepsContents old new × (IsNow old → IsNow new)

-- ---- marks that are made

-- whatever is kept stays
abbrev pub HoldsContents : Chains → Chains → Type 0
HoldsContents old new = (t p : ℕ) (x : Standing) → standing old t p ≡ Some x → standing new t p ≡ Some (record { content = x.content; marks = count new t p })

-- with these marks more, which are live, and with all that was there
abbrev pub Adds : Chains → Chains → List Mark → Type 0
Adds old new ms = (new.db ≡ old.db) × (new.versions ≡ old.versions) × (length new.live ≡ length old.live) × ((t p : ℕ) → count new t p ≡ count old t p + uses t p ms) × HoldsContents old new × AreLive new ms × IsNow new

-- how many marks are counted at all versions of a table, and of these tables
abbrev pub counted_at : Live → ℕ
counted_at l = total (λ x. x.marks) (entries_of l)

abbrev pub counted_in : List Live → ℕ
counted_in [] = 0
counted_in (l ∷ ls) = counted_at l + counted_in ls

-- a list of versions for each table
abbrev pub HasLists : Chains → Type 0
HasLists k = length k.live ≡ length k.db

-- the same, and fewer than n marks at all of them together
abbrev pub HasRoom : Chains → ℕ → Type 0
HasRoom k n = HasLists k × (counted_in k.live < n)

-- as many lists of versions, and as many marks at all of them together
abbrev pub KeepsRoom : Chains → Chains → Type 0
KeepsRoom old new = (length new.live ≡ length old.live) × (counted_in new.live ≡ counted_in old.live)
