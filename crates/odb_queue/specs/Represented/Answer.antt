-- What a request is answered at once.
use Rattle.std.specs.Prelude.{Option, Some, None, option_map, option_to_list, unwrap_or}
use Rattle.odb_service.specs.Server.{served_by}
use Rattle.odb_service.specs.Session.{Item, Session, say, to}
use Rattle.odb_service.specs.World.{push}
use Rattle.odb_rpc.specs.Message.{Call, answered, call_of, cancel, cancel_monitor, change_filters, lock, monitor, passed_over, steal, transact, unlock}
use Rattle.odb_schema.specs.Json.{Data, null}
use Rattle.odb_schema.specs.Schema.{Schema}

-- what a server of the schema makes of a message
abbrev pub call_at : Schema → Data → Call
call_at s d = call_of (served_by s).db_name (served_by s).schema (served_by s).serves d

-- a call that is over at once, with its answer if it has one
abbrev pub at_once : Call → Option (Option Data)
at_once (answered d) = Some (Some d)
at_once (transact id ops) = None
at_once (monitor id n i requests since) = None
at_once (change_filters id old new filters) = None
at_once (cancel_monitor id i) = None
at_once (lock id name) = None
at_once (steal id name) = None
at_once (unlock id name) = None
at_once (cancel id) = Some None
at_once passed_over = Some None

-- the answer of a call that is over at once, if it has one
abbrev pub answer_of : Call → Option Data
answer_of c = unwrap_or (at_once c) None

-- the answer that a request gets at once, null where it gets none
abbrev pub answer_to : Schema → Data → Data
answer_to s d = unwrap_or (answer_of (call_at s d)) null

-- the item that a finished answer is
abbrev pub said : Data → Data → Item
said d answer = say (to d) answer

-- the session once it was answered, if the request is one that is answered at once
abbrev pub answered_with : Schema → Data → Session → Option Session
answered_with s d x = option_map (λ answer. push (option_to_list (option_map (said d) answer)) x) (at_once (call_at s d))
