-- Sessions to which nothing is owed. [P 10.1]
use Rattle.std.specs.Prelude.{◌≡◌, ℕ, [], Some, None}
use Rattle.odb_atoms.specs.FinMap.{get}
use Rattle.odb_schema.specs.Schema.{Schema}
use Rattle.odb_service.specs.Server.{served_by}
use Rattle.odb_service.specs.Session.{Revision, Session, take}
use Rattle.odb_sessions.specs.Book.{Book}
use Rattle.odb_tables.specs.Database.{Db}

-- nothing is queued, and a taking from this database gives nothing and changes nothing
abbrev pub IsQuiet : Db → Session → Type 0
IsQuiet db x = (x.queue ≡ []) × ((s : Schema) (revision : Revision) → revision.db ≡ db → take (served_by s) revision x ≡ (None, x))

-- the same of the session at a number, if one is open
abbrev pub IsQuietAt : Book → ℕ → Type 0
IsQuietAt b s = (x : Session) → get b.sessions s ≡ Some x → IsQuiet b.db x
