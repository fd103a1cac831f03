-- An index of interest may go to another thread, and be lent to one.
use denote.Param.Send.{IsSend, IsSync}
use Rattle.odb_interest.proofs.interest.Interest.TheSendSync as interest
use Rattle.odb_interest.specs.contracts.interest.Interest as Interest

pub Interest-send : IsSend (Interest.the_field).row
Interest-send = interest.the_send

pub Interest-sync : IsSync (Interest.the_field).row
Interest-sync = interest.the_sync
