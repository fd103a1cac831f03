-- What is kept of the last commits may go to another thread, and be lent to one.
use denote.Param.Send.{IsSend, IsSync}
use Rattle.odb_recent.proofs.recent.Recent.TheSendSync as recent
use Rattle.odb_recent.specs.contracts.recent.Recent as Recent

pub Recent-send : IsSend (Recent.the_field).row
Recent-send = recent.the_send

pub Recent-sync : IsSync (Recent.the_field).row
Recent-sync = recent.the_sync
