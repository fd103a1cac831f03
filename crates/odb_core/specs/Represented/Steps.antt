-- Steps of a server.
use Rattle.std.specs.Prelude.{◌≡◌, List, ◌++◌, option_to_list, Option, None}
use Rattle.odb_service.specs.Server.{Server, served_by}
use Rattle.odb_service.specs.Service.{Service}
use Rattle.odb_service.specs.World.{Waiting, World, attempt, untried, with_waiting}

-- the server, with this made of its world
abbrev pub in_world : (World → World) → Server → Server
in_world f v = record v { world = f v.world }

-- the same, where its service makes it
abbrev pub by_service : (Service → World → World) → Server → Server
by_service f v = record v { world = f (served_by v.schema) v.world }

-- the server, where these wait
abbrev pub let_wait : List Waiting → Server → Server
let_wait ps v = record v { world = record (v.world) { waiting = ps } }

-- the server after a try of a transaction, and the transaction where it waits again
abbrev pub attempted : Waiting → Server → Server × Option Waiting
attempted p v = (record v { world = (attempt (served_by v.schema) p v.world).0 }, (attempt (served_by v.schema) p v.world).1)

-- how a service tries one that waited, which goes after the others unless it ends
abbrev pub try_again : Waiting → Service → World → World
try_again p h w = with_waiting h (λ ps o. ps ++ option_to_list o) w.waiting (attempt h p w)

-- nothing but sessions changed
abbrev pub OnlySessions : Server → Server → Type 0
OnlySessions old new = new ≡ record old { world = record (old.world) { sessions = new.world.sessions } }

-- nothing but locks and sessions changed
abbrev pub OnlyLocksAndSessions : Server → Server → Type 0
OnlyLocksAndSessions old new = new ≡ record old { world = record (old.world) { locks = new.world.locks; sessions = new.world.sessions } }

-- each transaction that waits was tried since the newest commit
abbrev pub AreTried : Server → Type 0
AreTried v = (h : Service) → untried h v.world ≡ None
