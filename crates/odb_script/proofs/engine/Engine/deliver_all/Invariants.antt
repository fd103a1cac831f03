use Rattle.std.proofs.Common.{◌≡◌, map}
use Rattle.odb_service.specs.Server.{served_by}
use Rattle.odb_wire.specs.Shown.{message_data}
use Rattle.odb_script.proofs.CommandSteps.{delivered_from}
use Rattle.odb_script.proofs.engine.Engine.deliver_all.Given as goal

abbrev pub invariant-loop-message : goal.invariant-loop-message
invariant-loop-message l =
    (delivered_from (served_by l.fn.self.schema) l.name l.session (map message_data l.fn.messages.items) l.fn.self.script l.fn.text.items
    ≡ delivered_from (served_by l.fn.self.schema) l.name l.session (map message_data l.message-iterator.rest.items) l.self.script l.text.items)
    × (l.self.schema ≡ l.fn.self.schema)
