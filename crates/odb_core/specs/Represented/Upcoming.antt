-- What becomes of a server by transactions that end and wait, before anything of it is made.
use Rattle.std.specs.Prelude.{◌≡◌, ℕ, Bool, false, refl, List, [], map, Some}
use Rattle.std.specs.Coded.{Coded, code_by, coded×}
use Rattle.odb_commit.specs.Sound.{IsSound}
use Rattle.odb_locks.specs.Locks.{Locks}
use Rattle.odb_schema.specs.Schema.{Schema}
use Rattle.odb_service.specs.Server.{Server, server_code}
use Rattle.odb_service.specs.Service.{Service}
use Rattle.odb_service.specs.World.{Waiting, World, is_due, retry_all, try_due}
use Rattle.odb_sessions.specs.Book.{Book}
use Rattle.odb_sessions.specs.Committed.{AreChangesFrom, Ending, all_ended, all_left}
use Rattle.odb_sessions.specs.Represented.Ended.{ending_of}
use Rattle.odb_tables.specs.Change.{all_changed_by}
use Rattle.odb_tables.specs.Installing.{IsChangeOf}
use Rattle.odb_tables.specs.Pending.{Pending}
use Rattle.odb_core.specs.Marked.{AreSame}
use Rattle.odb_core.specs.Stuck.{AreStuck, IsSameAt, waits_on}
use Rattle.odb_core.specs.Represented.Rounds.{book_in}
use Rattle.odb_core.specs.declared.upcoming.Plan.{Plan}

-- the server as it is, and as it will be
pub record Upcoming : Type 0 where
  pub base : Server
  pub next : Server

abbrev pub upcoming_code : Coded Upcoming
upcoming_code = code_by (Server × Server) (coded× server_code server_code) (λ u. (u.base, u.next)) (λ p. record { base = p.0; next = p.1 }) (λ _. refl)

-- a server with this book, in which none waits
abbrev pub server_with : Schema → Locks → (now opened : ℕ) → Book → Server
server_with s locks now opened b = record { schema = s; world = record { db = b.db; commits = b.commits; earlier = b.earlier; now = now; waiting = []; locks = locks; sessions = b.sessions }; opened = opened }

-- the server with this book, where these wait
abbrev pub with_book : Server → List Waiting → Book → Server
with_book v ps b = record v { world = record (v.world) { db = b.db; commits = b.commits; earlier = b.earlier; waiting = ps; sessions = b.sessions } }

-- the server after these transactions ended, where these wait
abbrev pub after_ended : Server → List Ending → List Waiting → Server
after_ended v es ps = with_book v ps (all_ended v.schema (book_in v.world) es)

-- What is put over the database, and the count of commits, are what these transactions make of them; and what is marked is as it was. Where memory was refused meanwhile that isn't known. Of those that wait each that rests on one table is stuck on the database without them.
pub record Agrees (spoilt : Bool) (s : Schema) (b : Book) (p : Pending) (n : ℕ) (es : List Ending) (marks : List Bool) (ps : List Waiting) : Type 0 where
  pub pending : spoilt ≡ false → p.now ≡ all_left b.db es
  pub base : p.old ≡ b.db
  pub commits : n ≡ (all_ended s b es).commits
  pub each : AreChangesFrom b.db es
  pub sound : IsSound s (all_left b.db es)
  pub marked : spoilt ≡ false → AreSame marks b.db p.now
  pub stuck : AreStuck s b.db ps

-- the one table on which it rests is as it was, and its deadline hasn't come
abbrev pub GoesOn : Upcoming → Waiting → Type 0
GoesOn u p = (name : List ℕ) × (waits_on p.operations ≡ Some name) × IsSameAt u.next.schema name u.base.world.db u.next.world.db × (is_due u.next.world.now p.deadline ≡ false)

-- the plan is of this server: each change is of what the ones before it leave, and the one change is what all of them come to, and leaves a sound database
pub record IsPlanOf (v : Server) (p : Plan) : Type 0 where
  pub each : AreChangesFrom v.world.db (map ending_of p.ended.items)
  pub whole : IsChangeOf v.world.db p.change
  pub leads_to : all_changed_by v.world.db p.change ≡ all_left v.world.db (map ending_of p.ended.items)
  pub sound : IsSound v.schema (all_changed_by v.world.db p.change)

-- it leads to this server
abbrev pub Leads : Server → Plan → Server → Type 0
Leads v p u = IsPlanOf v p × (u ≡ after_ended v (map ending_of p.ended.items) p.left)

-- the world after those were tried whose deadline has come, and what a retrying of all makes of it
abbrev pub after_due : Service → World → World
after_due h w = retry_all h (try_due h w.waiting (record w { waiting = [] }))
