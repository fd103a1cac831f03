-- How many transactions of each session wait, as the code counts them.
use Rattle.std.specs.Prelude.{◌≡◌, ℕ, ◌+◌, ◌==◌, List, count_by, if◌then◌else◌, unwrap_or}
use Rattle.std.specs.BTreeMap.{get}
use Rattle.std.specs.Ordering.{nat_cmp}
use Rattle.odb_service.specs.World.{Waiting}
use Rattle.odb_core.specs.declared.counts.Counts.{Counts}

abbrev pub count_of : Counts → ℕ → ℕ
count_of c s = unwrap_or (get nat_cmp c.counts s) 0

-- each session has as many as before
abbrev pub IsSame : Counts → Counts → Type 0
IsSame old new = (s : ℕ) → count_of new s ≡ count_of old s

-- the session has one more than before, and each other as many
abbrev pub HasOneMore : Counts → Counts → ℕ → Type 0
HasOneMore old new session = (s : ℕ) → count_of new s ≡ (if session == s then count_of old s + 1 else count_of old s)

-- the session has none now, and each other as many as before
abbrev pub Forgets : Counts → Counts → ℕ → Type 0
Forgets old new session = (s : ℕ) → count_of new s ≡ (if session == s then 0 else count_of old s)

-- they are the counts of these
abbrev pub AreCounted : Counts → List Waiting → Type 0
AreCounted c ps = (s : ℕ) → count_of c s ≡ count_by (λ p. p.session == s) ps
