-- Requests of one schema: what they name and of which types that is, the schema has so. So they are the same where they ask for the same places of it. [P 9.1]
use Rattle.std.specs.Prelude.{◌≡◌, ℕ, List, map, Some}
use Rattle.std.specs.List.{AllByRecursion}
use Rattle.odb_atoms.specs.FinMap.{get}
use Rattle.odb_request.specs.Represented.Shape.{table_name}
use Rattle.odb_request.specs.Request.{Request}
use Rattle.odb_request.specs.Requests.{monitored}
use Rattle.odb_schema.specs.Schema.{Schema, columns_at}
use Rattle.odb_service.specs.Session.{Item, Monitor, Session, renamed, say, shift, start, stopped, sync}
use Rattle.odb_sessions.specs.Book.{Sessions}
use Rattle.odb_sessions.specs.Alike.{Asks, asks_of}

-- the request that asks so, with the names and the types that the schema has
abbrev pub named_by : Schema → Asks → Request
named_by s a = record {
  shape = record { name = table_name s a.place; columns = map (monitored (columns_at s a.place)) a.columns };
  place = a.place;
  select = a.select;
  filter = a.filter;
}

abbrev pub IsOfSchema : Schema → Request → Type 0
IsOfSchema s q = q ≡ named_by s (asks_of q)

abbrev pub AreOfSchema : Schema → List Request → Type 0
AreOfSchema s qs = AllByRecursion (IsOfSchema s) qs

-- ---- sessions

abbrev pub IsMonitorOf : Schema → Monitor → Type 0
IsMonitorOf s m = AreOfSchema s m.watch.requests

-- what it asks to watch, if it does
abbrev pub IsItemOf : Schema → Item → Type 0
IsItemOf s (say a d) = Unit {0}
IsItemOf s (start d k) = AreOfSchema s k.requests
IsItemOf s (sync i) = Unit {0}
IsItemOf s (shift i fs) = Unit {0}
IsItemOf s (renamed d old new fs) = Unit {0}
IsItemOf s (stopped d i) = Unit {0}

-- what its monitors ask, and those whose first reply is due
abbrev pub IsSessionOf : Schema → Session → Type 0
IsSessionOf s x = AllByRecursion (IsItemOf s) x.queue × AllByRecursion (IsMonitorOf s) x.monitors

abbrev pub AreSessionsOf : Schema → Sessions → Type 0
AreSessionsOf s m = (n : ℕ) (x : Session) → get m n ≡ Some x → IsSessionOf s x
