-- Rounds of one session alone.
use Rattle.std.specs.Prelude.{◌≡◌, ℕ, ◌==◌, length, Bool, true, false, List, [], ◌∷◌, Option, None, Some}
use Rattle.odb_atoms.specs.FinMap.{get}
use Rattle.odb_service.specs.Run.{Event, round}
use Rattle.odb_service.specs.Server.{Server, served_by}
use Rattle.odb_service.specs.Session.{Session, owed}
use Rattle.odb_service.specs.World.{revision_of}
use Rattle.odb_hub.specs.Guarded.{Guarded, Takes}
use Rattle.odb_hub.specs.Rings.{IsFlushedAt, IsServed, Text, is_free_at, texts_to}

-- the event is taken; or it isn't, and nothing is sent
abbrev pub TakesIf : Bool → Event → Guarded → Guarded → List (ℕ × Text) → Type 0
TakesIf true e old new outs = Takes e old new outs
TakesIf false e old new outs = (new.server ≡ old.server) × (new.base ≡ old.base) × (new.events ≡ old.events) × (outs ≡ [])

-- the rings of other sessions stay
abbrev pub LeavesOthers : ℕ → Guarded → Guarded → Type 0
LeavesOthers s old new = (t : ℕ) → (s == t) ≡ false → get new.rings t ≡ get old.rings t

-- a round that lists this session alone, and what it makes of its ring; or no event, where it has no ring or a message is held back still
abbrev pub TakesOwnRound : ℕ → ℕ → Guarded → Guarded → Type 0
TakesOwnRound s count old new =
    (listed : Bool) × (outs : List (ℕ × Text)) × TakesIf listed (round (s ∷ [])) old new outs × (count ≡ length outs)
    × IsServed listed (texts_to s outs) (get old.rings s) (get new.rings s) × LeavesOthers s old new

-- such rounds one after another, by how many messages each gave, the last of them first
abbrev pub TakesOwnRounds : ℕ → List ℕ → Guarded → Guarded → Type 0
TakesOwnRounds s [] old new = new ≡ old
TakesOwnRounds s (count ∷ counts) old new = (before : Guarded) × TakesOwnRounds s counts old before × TakesOwnRound s count before new

-- what was held back for the session may have been sent, and nothing else changed
abbrev pub FlushesOwn : ℕ → Guarded → Guarded → Type 0
FlushesOwn s old new = (new.server ≡ old.server) × (new.base ≡ old.base) × (new.events ≡ old.events) × IsFlushedAt (get old.rings s) (get new.rings s) × LeavesOthers s old new

-- rounds of this session alone; where memory was refused to one more, what was held back for it may have been sent
abbrev pub GivesOwn : ℕ → Guarded → Guarded → Type 0
GivesOwn s old new = (counts : List ℕ) × (last : Guarded) × TakesOwnRounds s counts old last × FlushesOwn s last new

-- the same of a session, if there is one; else nothing changes
abbrev pub GivesTo : Option ℕ → Guarded → Guarded → Type 0
GivesTo (Some s) old new = GivesOwn s old new
GivesTo None old new = new ≡ old

-- further takings give the session nothing
abbrev pub IsOwedNothing : ℕ → Server → Type 0
IsOwedNothing s v = (x : Session) → get v.world.sessions s ≡ Some x → owed (served_by v.schema) (revision_of v.world) x ≡ []

-- a message is held back for the session, or it is owed nothing
abbrev pub IsGiven : ℕ → Guarded → Type 0
IsGiven s k = is_free_at (get k.rings s) ≡ true → IsOwedNothing s k.server
