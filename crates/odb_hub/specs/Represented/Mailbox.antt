-- What was taken out of a mailbox.
use Rattle.std.specs.Prelude.{ℕ, List, [], Some, None}
use Rattle.rtrb.specs.Ring.{received}
use Rattle.odb_sessions.specs.declared.out.Out.{Out}
use Rattle.odb_hub.specs.Represented.Ends.{consumer_name}
use Rattle.odb_hub.specs.Rings.{Name}
use Rattle.odb_hub.specs.declared.mailbox.Mailbox.{Mailbox}

-- the messages that were taken out so far, in order
abbrev pub taken : Mailbox → List Out
taken m = received m.consumer

-- the ring that it is the end of
abbrev pub name_of : Mailbox → Name
name_of m = consumer_name m.consumer

-- the text of its body, if it has one
abbrev pub body_of : Out → List ℕ
body_of o = elim o.body [ None ↦ [] | Some shared ↦ shared.value.items ]
