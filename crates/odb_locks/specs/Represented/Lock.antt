-- The codes of claims and locks, and what a lock becomes by a claim of either kind.
use Rattle.std.specs.Prelude.{ℕ, Bool, refl, List, ◌∷◌, [], ◌++◌, if◌then◌else◌, ◌==◌, Option, Some, None}
use Rattle.std.specs.Coded.{Coded, code_by, coded×, coded_ℕ, coded_bool, coded_list}
use Rattle.odb_atoms.specs.FinMap as map
use Rattle.odb_locks.specs.Locks.{Claim, Lock, Locks, claims_left, robbed_now}

abbrev pub claim_code : Coded Claim
claim_code = code_by (ℕ × Bool) (coded× coded_ℕ coded_bool) (λ c. (c.session, c.stolen)) (λ p. record { session = p.0; stolen = p.1 }) (λ _. refl)

abbrev pub lock_code : Coded Lock
lock_code = code_by (List Claim × List ℕ) (coded× (coded_list claim_code) (coded_list coded_ℕ)) (λ k. (k.claims, k.robbed)) (λ p. record { claims = p.0; robbed = p.1 }) (λ _. refl)

abbrev pub locks_code : Coded Locks
locks_code = map.code (coded_list coded_ℕ) lock_code

-- the lock once a session without a claim has one: by `lock` at the end, by `steal` in front
abbrev pub with_claim : Claim → Lock → Lock
with_claim c k =
    if c.stolen then record { claims = c ∷ claims_left k.claims; robbed = k.robbed ++ robbed_now k.claims }
    else record k { claims = k.claims ++ c ∷ [] }

-- the session that owns
abbrev pub first_of : List Claim → Option ℕ
first_of [] = None
first_of (c ∷ cs) = Some c.session

-- the session that owns once this one's claim goes, if another did before
abbrev pub next_of : ℕ → List Claim → Option ℕ
next_of s [] = None
next_of s (c ∷ []) = None
next_of s (c ∷ d ∷ cs) = if c.session == s then Some d.session else None
