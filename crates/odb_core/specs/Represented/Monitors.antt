-- What is read of the requests about monitors, and what becomes of it.
use Rattle.std.specs.Prelude.{ℕ, Bool, not, ◌&&◌, if◌then◌else◌, List, [], ◌∷◌, Option, Some, None, is_some, Result, Ok, Err, Vec, bytes_eq}
use Rattle.std.specs.List.{list_all, list_any}
use Rattle.std.specs.declared.alloc.Global.{Global}
use Rattle.odb_atoms.specs.Error as atoms
use Rattle.odb_atoms.specs.Error.{syntax_error}
use Rattle.odb_atoms.specs.Represented.Error.{error_of}
use Rattle.odb_atoms.specs.declared.error.Error.{Error}
use Rattle.odb_cond.specs.Filter.{Filter}
use Rattle.odb_request.specs.Request.{Request, Shape, is_conditional}
use Rattle.odb_rpc.specs.Message as message
use Rattle.odb_rpc.specs.Message.{failed, unknown_monitor}
use Rattle.odb_rpc.specs.Represented.Failure.{failure_of}
use Rattle.odb_rpc.specs.declared.error.Failure.{Failure}
use Rattle.odb_schema.specs.Json.{Data}
use Rattle.odb_service.specs.Service.{Service}
use Rattle.odb_service.specs.Session.{Session, renamed, same_id, shift}
use Rattle.odb_service.specs.World.{World, asked_of, fail, post, watched}
use Rattle.odb_sessions.specs.Named.{Named}
use Rattle.odb_sessions.specs.Represented.Item.{filters_of}
use Rattle.odb_sessions.specs.declared.item.Changes.{Changes}

-- new filters by the names of their tables
abbrev pub Filters : Type 0
Filters = List (List ℕ × Filter)

-- the requests that were read, or their first fault
abbrev pub requests_as : Result (Vec Request Global) Error → Result (List Request) atoms.Error
requests_as (Ok qs) = Ok qs.items
requests_as (Err e) = Err (error_of e)

-- the filters that were read, or why they are refused
abbrev pub filters_as : Result Changes Failure → Result Filters message.Failure
filters_as (Ok c) = Ok (filters_of c)
filters_as (Err f) = Err (failure_of f)

-- every table that is named is one of these
abbrev pub are_among : List Shape → Filters → Bool
are_among ss fs = list_all (λ f. list_any (λ s. bytes_eq f.0 s.name) ss) fs

-- the filters for a monitor of these tables
abbrev pub filters_for : List Shape → Result Filters atoms.Error → Result Filters message.Failure
filters_for ss (Err e) = Err (failed e)
filters_for ss (Ok fs) = if are_among ss fs then Ok fs else Err (failed syntax_error)

module _ (h : Service) where
  -- another monitor of the session, as asked, has the new id
  abbrev pub is_taken : Data → Data → Option Session → Bool
  is_taken old new x = not (same_id h old new) && is_some (watched h new (asked_of h x))

  -- the filters for the monitor that was found, where `taken` says so of the new id
  abbrev pub change_for : Bool → Result Filters atoms.Error → Option Named → Result Filters message.Failure
  change_for taken read None = Err unknown_monitor
  change_for taken read (Some k) =
      if not (is_conditional k.notation) then Err unknown_monitor
      else (if taken then Err (failed syntax_error) else filters_for k.shapes read)

-- a change that was read is queued for the session, or refused
abbrev pub changed_by : ℕ → Data → Data → Data → Result Filters message.Failure → World → World
changed_by s d old new (Err why) w = fail s d why w
changed_by s d old new (Ok fs) w = post s (shift old fs ∷ renamed d old new fs ∷ []) w
