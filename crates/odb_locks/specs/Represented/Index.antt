-- What an index from sessions to the names that they claim says.
use Rattle.std.specs.Prelude.{◌≡◌, ℕ, Bool, false, List, ◌&&◌, ◌==◌, if◌then◌else◌, Option, Some, None}
use Rattle.std.specs.Ordering.{nat_cmp}
use Rattle.std.specs.BTreeMap.{get}
use Rattle.std.specs.BTreeSet.{BTreeSet, contains_text}
use Rattle.std.specs.Str.{bytes_eq}
use Rattle.std.specs.declared.string.String.{String}
use Rattle.std.specs.declared.alloc.Global.{Global}
use Rattle.odb_locks.specs.Locks.{Locks, has_claim, lock_of}
use Rattle.odb_locks.specs.declared.index.Index.{Index}

abbrev pub names_have : Option (BTreeSet (String Global)) → List ℕ → Bool
names_have None q = false
names_have (Some names) q = contains_text names q

-- whether the session claims the name
abbrev pub has_name : Index → ℕ → List ℕ → Bool
has_name ix s q = names_have (get nat_cmp ix.names s) q

abbrev pub IsUnchanged : Index → Index → Type 0
IsUnchanged old new = (s : ℕ) (q : List ℕ) → has_name new s q ≡ has_name old s q

-- at one session and name there stands b now, and all else stays
abbrev pub Sets : Index → Index → ℕ → List ℕ → Bool → Type 0
Sets old new session name b = (s : ℕ) (q : List ℕ) → has_name new s q ≡ (if session == s && bytes_eq name q then b else has_name old s q)

-- the session claims nothing now, and all else stays
abbrev pub Forgets : Index → Index → ℕ → Type 0
Forgets old new session = (s : ℕ) (q : List ℕ) → has_name new s q ≡ (if session == s then false else has_name old s q)

-- it has just the names that a session has a claim of
abbrev pub Indexes : Index → Locks → Type 0
Indexes ix l = (s : ℕ) (q : List ℕ) → has_name ix s q ≡ has_claim s (lock_of l q)
