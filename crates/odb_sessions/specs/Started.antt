-- A monitor that is asked for, until its first reply is queued.
use Rattle.std.specs.Prelude.{◌≡◌, ◌<◌, true, List, [], ◌∷◌, length, map}
use Rattle.odb_request.specs.Request.{Request}
use Rattle.odb_request.specs.Requests.{are_distinct}
use Rattle.odb_schema.specs.Json.{Data}
use Rattle.odb_service.specs.Session.{Item, Watch, start}
use Rattle.odb_tables.specs.Database.{Db}

-- the request, and what it asks to watch
pub record Starting : Type 0 where
  pub request : Data
  pub watch : Watch

abbrev pub started : Starting → Item
started s = start s.request s.watch

-- each is of a table that the database has
abbrev pub AreOfTables : Db → List Request → Type 0
AreOfTables db [] = Unit {0}
AreOfTables db (q ∷ qs) = (q.place < length db) × AreOfTables db qs

-- no table is asked for twice
abbrev pub AreApart : List Request → Type 0
AreApart qs = are_distinct (map (λ q. q.shape.name) qs) ≡ true
