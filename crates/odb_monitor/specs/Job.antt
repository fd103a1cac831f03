-- What is owed to the client of a monitor: what it was told, what is asked, and the difference as it is sent. [P 9.3]
use Rattle.std.specs.Prelude.{Bool, ◌||◌, if◌then◌else◌, not, List, map, Option, Some, None}
use Rattle.serde_json.specs.Data.{Data}
use Rattle.odb_request.specs.Request.{Notation, Request, shapes}
use Rattle.odb_monitor.specs.Update.{table_updates}
use Rattle.odb_monitor.specs.View.{Contents, Delta, delta, is_none, shown}

-- of one table: what is monitored, the rows that the client has, and those that it is to have
pub record Part : Type 0 where
  pub request : Request
  pub told : Contents
  pub asked : Contents

-- in which notation, whether its rows come first, and whether it is a reply, which is sent whatever is left of it
pub record Job : Type 0 where
  pub notation : Notation
  pub first : Bool
  pub reply : Bool
  pub parts : List Part

abbrev pub requests_of : Job → List Request
requests_of j = map (λ p. p.request) j.parts

-- the difference, without the kinds of change that are switched off
abbrev pub shown_of : Job → Delta
shown_of j = shown j.first (requests_of j) (delta (map (λ p. p.told) j.parts) (map (λ p. p.asked) j.parts))

-- what is sent: nothing where nothing of the difference is left, but that a reply always is
abbrev pub updates_of : Job → Option Data
updates_of j = if j.reply || not (is_none (shown_of j)) then Some (table_updates j.notation j.first (shapes (requests_of j)) (shown_of j)) else None
