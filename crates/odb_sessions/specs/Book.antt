-- The database, its last commits and the open sessions, as the service machine has them.
use Rattle.std.specs.Prelude.{ℕ, drop, []}
use Rattle.std.specs.Ordering.{nat_cmp}
use Rattle.odb_atoms.specs.FinMap.{FinMap, empty}
use Rattle.odb_chain.specs.Chains.{Chains}
use Rattle.odb_recent.specs.Findable.{findable}
use Rattle.odb_recent.specs.Recent.{Recent}
use Rattle.odb_service.specs.Session.{Earlier, Revision, Session, nothing_earlier}
use Rattle.odb_tables.specs.Database.{Db}

-- the open sessions by their numbers
abbrev pub Sessions : Type 0
Sessions = FinMap nat_cmp Session

pub record Book : Type 0 where
  pub db : Db
  pub commits : ℕ
  pub earlier : Earlier
  pub sessions : Sessions

-- nothing is queued, and there is no monitor
abbrev pub fresh_session : Session
fresh_session = record { queue = []; monitors = [] }

-- no session is open, and there is no commit, in a run with this word, of which so many contents can be found
abbrev pub book_of : (run most : ℕ) → Db → Book
book_of run most db = record { db = db; commits = 0; earlier = nothing_earlier run most; sessions = empty }

-- what takings of its sessions look at
abbrev pub revision_in : Book → Revision
revision_in b = record { db = b.db; commits = b.commits; earlier = b.earlier }

-- what can be found of earlier contents, where the database is this one now
abbrev pub earlier_of : Db → Recent → Earlier
earlier_of db r = record { run = r.run; most = r.most; contents = drop 1 (findable db r.undos) }

-- with these last commits
abbrev pub book_with : Db → Recent → Sessions → Book
book_with db r m = record { db = db; commits = r.commits; earlier = earlier_of db r; sessions = m }

-- what takings look at, of the database with its past, with these last commits
abbrev pub revision_at : Chains → Recent → Revision
revision_at k r = record { db = k.db; commits = r.commits; earlier = earlier_of k.db r }
