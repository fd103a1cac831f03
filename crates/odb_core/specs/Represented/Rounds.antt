-- Rounds as they are planned. [P 10.3, 13.1]
use Rattle.std.specs.Prelude.{◌≡◌, ℕ, List, map}
use Rattle.odb_service.specs.Run.{once, take_each}
use Rattle.odb_service.specs.Server.{Server, printed, served_by}
use Rattle.odb_service.specs.World.{World}
use Rattle.odb_sessions.specs.Book.{Book}
use Rattle.odb_round.specs.Taken.{AreOf, Pending, sessions_in}

-- the database, its commits and the sessions
abbrev pub book_in : World → Book
book_in w = record { db = w.db; commits = w.commits; earlier = w.earlier; sessions = w.sessions }

-- the takings are those of the round of these sessions, each once, as the server is
abbrev pub AreRoundOf : List ℕ → Server → List Pending → Type 0
AreRoundOf ready v ps = (sessions_in ps ≡ once ready) × AreOf (book_in v.world) ps

-- the same of some sessions
abbrev pub AreRound : Server → List Pending → Type 0
AreRound v ps = (ready : List ℕ) × AreRoundOf ready v ps

-- a round of these sessions leads from the one server to the other, and gives this
abbrev pub IsRoundOf : List ℕ → Server → Server → List (ℕ × List ℕ) → Type 0
IsRoundOf listed old new outs = (record old { world = (take_each (served_by old.schema) listed old.world).0 } ≡ new) × (map printed (take_each (served_by old.schema) listed old.world).1 ≡ outs)
