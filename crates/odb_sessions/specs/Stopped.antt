-- What a cancel of a monitor and a change of one queue.
use Rattle.std.specs.Prelude.{ℕ, List, [], ◌∷◌}
use Rattle.odb_cond.specs.Filter.{Filter}
use Rattle.odb_schema.specs.Json.{Data}
use Rattle.odb_service.specs.Session.{Session, renamed, shift, stopped, sync}
use Rattle.odb_service.specs.World.{push}

-- what the client lacks, and then the reply to the request d for the cancel of the monitor i
abbrev pub stopped_in : Data → Data → Session → Session
stopped_in d i = push (sync i ∷ stopped d i ∷ [])

-- a change that is asked for: the request, the ids, and the new filters by the names of their tables
pub record Changing : Type 0 where
  pub request : Data
  pub old : Data
  pub new : Data
  pub filters : List (List ℕ × Filter)

-- what the client lacks under the new filters, and then the reply
abbrev pub changed_in : Changing → Session → Session
changed_in c = push (shift c.old c.filters ∷ renamed c.request c.old c.new c.filters ∷ [])
