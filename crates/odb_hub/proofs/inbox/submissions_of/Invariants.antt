use Rattle.std.proofs.Common.{◌≡◌, ◌++◌, map}
use Rattle.std.specs.Prelude.{All}
use Rattle.odb_wire.specs.Shown.{IsOfItsKind, message_data}
use Rattle.odb_hub.specs.Inbox.{messages_of, requests_in}
use Rattle.odb_hub.specs.Represented.Inbox.{pending_in}
use Rattle.odb_hub.proofs.inbox.submissions_of.Given as goal

-- what was found so far, and the requests among the rest, are all
abbrev pub invariant-loop-message : goal.invariant-loop-message
invariant-loop-message g l = (requests_in (map message_data l.initial.message-iterator.rest.items) ≡ messages_of (map pending_in l.all.items) ++ requests_in (map message_data l.message-iterator.rest.items)) × All IsOfItsKind l.message-iterator.rest.items
