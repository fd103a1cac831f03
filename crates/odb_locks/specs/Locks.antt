-- Named locks: for each name its claims in order, of which the first owns, and the sessions that lost a stolen claim and still have to unlock. [P 11.1, 11.2, 14]
use Rattle.std.specs.Prelude.{ℕ, Bool, true, false, not, ◌&&◌, ◌||◌, ◌==◌, nat_lt, if◌then◌else◌, List, [], ◌∷◌, ◌++◌, filter, unwrap_or, Result, Ok, Err}
use Rattle.std.specs.List.{list_any}
use Rattle.std.specs.Ordering.{nat_cmp}
use Rattle.std.specs.Cmp.Lexicographic.{slice_cmp}
use Rattle.odb_atoms.specs.FinMap as map

-- by `lock` or by `steal`
pub record Claim : Type 0 where
  pub session : ℕ
  pub stolen : Bool

pub record Lock : Type 0 where
  pub claims : List Claim
  pub robbed : List ℕ

abbrev pub is_empty : {A : Type 0} → List A → Bool
is_empty [] = true
is_empty (x ∷ xs) = false

-- a name is there while it has a claim or a robbed session
abbrev pub Locks : Type 0
Locks = map.FinMap (slice_cmp nat_cmp) Lock

-- `locked` or `stolen`, told to a session
pub record Notice : Type 0 where
  pub session : ℕ
  pub stolen : Bool
  pub name : List ℕ

abbrev pub max_names : ℕ
max_names = 65536

abbrev pub lock_of : Locks → List ℕ → Lock
lock_of l name = unwrap_or (map.get l name) (record { claims = []; robbed = [] })

abbrev pub is_free : Lock → Bool
is_free k = is_empty k.claims && is_empty k.robbed

abbrev pub put_lock : Locks → List ℕ → Lock → Locks
put_lock l name k = if is_free k then map.remove l name else map.insert l name k

abbrev pub has_claim : ℕ → Lock → Bool
has_claim s k = list_any (λ c. c.session == s) k.claims || list_any (λ t. t == s) k.robbed

abbrev pub is_first : ℕ → List Claim → Bool
is_first s [] = false
is_first s (c ∷ cs) = c.session == s

abbrev pub owns : Locks → ℕ → List ℕ → Bool
owns l s name = is_first s (lock_of l name).claims

-- a call with a claim that isn't unlocked yet, or an unlock without one; a claim of one name too many
pub data LockFault : Type 0 where
  out_of_turn too_many_names : LockFault

-- the locks after a call, the notices to send, and whether the caller owns the lock
abbrev pub Answered : Type 0
Answered = Result (Locks × List Notice × Bool) LockFault

-- on a free name the caller owns it, else it joins the end
abbrev pub lock : Locks → ℕ → List ℕ → Answered
lock l s name =
    let k = lock_of l name in
    if has_claim s k then Err out_of_turn
    else (if is_free k && not (nat_lt (map.len l) max_names) then Err too_many_names
    else Ok (put_lock l name (record k { claims = k.claims ++ record { session = s; stolen = false } ∷ [] }), [], is_empty k.claims))

-- an owner by `lock` stays after the thief, an owner by `steal` leaves and is robbed
abbrev pub claims_left : List Claim → List Claim
claims_left [] = []
claims_left (c ∷ cs) = if c.stolen then cs else c ∷ cs

abbrev pub robbed_now : List Claim → List ℕ
robbed_now [] = []
robbed_now (c ∷ cs) = if c.stolen then c.session ∷ [] else []

abbrev pub notices_when_stolen : List ℕ → List Claim → List Notice
notices_when_stolen name [] = []
notices_when_stolen name (c ∷ cs) = record { session = c.session; stolen = true; name = name } ∷ []

abbrev pub steal : Locks → ℕ → List ℕ → Answered
steal l s name =
    let k = lock_of l name in
    if has_claim s k then Err out_of_turn
    else (if is_free k && not (nat_lt (map.len l) max_names) then Err too_many_names
    else Ok (put_lock l name (record { claims = record { session = s; stolen = true } ∷ claims_left k.claims; robbed = k.robbed ++ robbed_now k.claims }), notices_when_stolen name k.claims, true))

-- who becomes first when s leaves
abbrev pub notices_when_freed : ℕ → List ℕ → List Claim → List Notice
notices_when_freed s name [] = []
notices_when_freed s name (c ∷ []) = []
notices_when_freed s name (c ∷ d ∷ cs) = if c.session == s then record { session = d.session; stolen = false; name = name } ∷ [] else []

abbrev pub without : ℕ → Lock → Lock
without s k = record { claims = filter (λ c. not (c.session == s)) k.claims; robbed = filter (λ t. not (t == s)) k.robbed }

abbrev pub unlock : Locks → ℕ → List ℕ → Answered
unlock l s name =
    let k = lock_of l name in
    if has_claim s k then Ok (put_lock l name (without s k), notices_when_freed s name k.claims, false) else Err out_of_turn

-- a session's claims go by ascending name
abbrev pub drop_names : ℕ → List (List ℕ) → Locks → Locks × List Notice
drop_names s [] l = (l, [])
drop_names s (name ∷ names) l =
    let k = lock_of l name in
    let rest = drop_names s names (if has_claim s k then put_lock l name (without s k) else l) in
    (rest.0, notices_when_freed s name k.claims ++ rest.1)

abbrev pub drop_session : Locks → ℕ → Locks × List Notice
drop_session l s = drop_names s (map.keys l) l
