-- What the lists of filters by sessions stand for, and what a call changes of them.
use Rattle.std.specs.Prelude.{◌≡◌, ℕ, zero, suc, ◌==◌, if◌then◌else◌, List, [], ◌∷◌, map, Vec}
use Rattle.std.specs.BTreeMap.{BTreeMap}
use Rattle.std.specs.declared.alloc.Global.{Global}
use Rattle.odb_cond.specs.Filter.{Filter}
use Rattle.odb_interest.specs.Keys.{Asked, Interests, asked_at}

abbrev pub shown : ℕ × Vec Asked Global → ℕ × List Asked
shown e = (e.0, e.1.items)

abbrev pub lists_in : BTreeMap ℕ (Vec Asked Global) → Interests
lists_in m = map shown m.entries

-- the session asks these, and each other what it did
abbrev pub Asks : Interests → Interests → ℕ → List Asked → Type 0
Asks old new session fs = (s : ℕ) → asked_at new s ≡ (if session == s then fs else asked_at old s)

-- each session asks what it did
abbrev pub IsSame : Interests → Interests → Type 0
IsSame old new = (s : ℕ) → asked_at new s ≡ asked_at old s

-- the list with this filter in the place of another of the same table, if there is one
abbrev pub with_filter : List Asked → ℕ → Filter → List Asked
with_filter [] k f = []
with_filter (a ∷ more) zero f = (a.0, f) ∷ more
with_filter (a ∷ more) (suc k) f = a ∷ with_filter more k f
