-- What a batch of events makes of what the lock guards.
use Rattle.std.specs.Prelude.{◌≡◌, ℕ, ◌≤◌, ◌<◌, ◌+◌, nat_lt, Bool, true, false, List, [], ◌∷◌, ◌++◌, Option, Some, None, IfErr, Result}
use Rattle.odb_service.specs.Run.{Event}
use Rattle.odb_service.specs.Server.{Server, serve}
use Rattle.odb_core.specs.declared.refused.EventRefusal.{EventRefusal}
use Rattle.odb_core.specs.Represented.Reason.{IsReason}
use Rattle.odb_hub.specs.Guarded.{Guarded, Takes}
use Rattle.odb_hub.specs.Own.{GivesOwn}

-- the events are taken in order, and nothing is sent
abbrev pub TakesAll : List Event → Guarded → Guarded → Type 0
TakesAll [] old new = new ≡ old
TakesAll (e ∷ es) old new = (next : Guarded) × Takes e old next [] × (next.rings ≡ old.rings) × TakesAll es next new

-- the first of these events are taken in order, and the others are left
abbrev pub TakesUpTo : List Event → List Event → Guarded → Guarded → Type 0
TakesUpTo events left old new = (taken : List Event) × (events ≡ taken ++ left) × TakesAll taken old new

-- there is a first event, and the server refuses it for this reason
abbrev pub RefusesFirst : EventRefusal → List Event → Server → Type 0
RefusesFirst why [] server = ⊥
RefusesFirst why (e ∷ es) server = IsReason why (serve e server)

-- these events of a session are taken up to what is left, of which the first is refused for the reason of the result; then come rounds of the session alone
abbrev pub Submits : {A : Type 0} → Result A EventRefusal → ℕ → List Event → List Event → Guarded → Guarded → Type 0
Submits result s events left old new = (taken : Guarded) × TakesUpTo events left old taken × IfErr result (λ why. RefusesFirst why left taken.server) × GivesOwn s taken new

-- a turn takes at most 64 of a batch of so many, and leaves so many
abbrev pub IsTurn : ℕ → ℕ → Type 0
IsTurn before left = (left ≤ before) × (before ≤ left + 64)

-- it takes one at least, where there is one
abbrev pub IsSome : ℕ → ℕ → Type 0
IsSome before left = 0 < before → left < before

-- a moment comes before another, of which each may be never
abbrev pub is_sooner : Option ℕ → Option ℕ → Bool
is_sooner None other = false
is_sooner (Some moment) None = true
is_sooner (Some moment) (Some other) = nat_lt moment other
