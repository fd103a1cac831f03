-- What the parts of a core stand for.
use Rattle.std.specs.Prelude.{◌≡◌, ◌≤◌, ◌+◌, ℕ, false, List, [], None, Some, length, replicate}
use Rattle.std.specs.Ordering.{nat_cmp}
use Rattle.std.specs.BTreeSet.{BTreeSet, contains}
use Rattle.odb_atoms.specs.FinMap as finite
use Rattle.odb_locks.specs.Locks.{Locks}
use Rattle.odb_service.specs.Server.{Server, served_by}
use Rattle.odb_service.specs.Session.{Session, nothing_earlier, take}
use Rattle.odb_service.specs.World.{Waiting, World, revision_of}
use Rattle.odb_schema.specs.Schema.{Schema}
use Rattle.odb_sessions.specs.Book.{Book, fresh_session}
use Rattle.odb_round.specs.OfSchema.{AreSessionsOf}
use Rattle.odb_core.specs.Represented.Steps.{AreTried}
use Rattle.odb_core.specs.Stuck.{IsKept}

-- no session has this number or a later one
abbrev pub AreUnused : finite.FinMap nat_cmp Session → ℕ → Type 0
AreUnused s opened = (q : ℕ) → opened ≤ q → finite.get s q ≡ None

-- each waiting transaction was tried since the newest commit, numbers of sessions stay below those to come, and what monitors ask is of the schema
abbrev pub IsValid : Server → Type 0
IsValid v = AreTried v × AreUnused v.world.sessions v.opened × AreSessionsOf v.schema v.world.sessions

-- the server of these parts
abbrev pub server_of : Schema → Book → List Waiting → Locks → (now opened : ℕ) → Server
server_of s b ps l now opened = record {
  schema = s;
  world = record { db = b.db; commits = b.commits; earlier = b.earlier; now = now; waiting = ps; locks = l; sessions = b.sessions };
  opened = opened;
}

-- empty tables, no commit, no waiting transaction, no lock and no session, in a run with this word, of which so many contents can be found
abbrev pub empty_world : (run most tables : ℕ) → World
empty_world run most tables = record {
  db = replicate tables finite.empty;
  commits = 0;
  earlier = nothing_earlier run most;
  now = 0;
  waiting = [];
  locks = finite.empty;
  sessions = finite.empty;
}

-- a server of the schema with no session, in such a run
abbrev pub new_server : (run most : ℕ) → Schema → Server
new_server run most schema = record { schema = schema; world = empty_world run most (length schema.tables); opened = 0 }

-- a taking of an open session that isn't in the set gives nothing and changes nothing
abbrev pub IsQuietBut : BTreeSet ℕ → Server → Type 0
IsQuietBut owed s = (q : ℕ) (x : Session) → contains nat_cmp owed q ≡ false → finite.get s.world.sessions q ≡ Some x → take (served_by s.schema) (revision_of s.world) x ≡ (None, x)

-- the server with one more session, of the next number
abbrev pub with_session : Server → Server
with_session v = record v { world = record (v.world) { sessions = finite.insert v.world.sessions v.opened fresh_session }; opened = v.opened + 1 }

-- of a server of these parts the database is sound, each transaction that rests on one table is stuck on it, and it is valid
abbrev pub IsWhole : Schema → Book → List Waiting → Locks → (now opened : ℕ) → Type 0
IsWhole s b ps l now opened = IsKept s b.db ps × IsValid (server_of s b ps l now opened)
