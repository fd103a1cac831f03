use Rattle.odb_waking.proofs.LoopKept.{no_end_is_left, no_message_is_left, no_request_is_left, no_socket_is_left}
use Rattle.odb_waking.proofs.PumpKept.{no_pump_oversleeps}
use Rattle.odb_waking.proofs.law.Goals as goal

pub returns-clause-pump : goal.returns-clause-pump
returns-clause-pump c = no_pump_oversleeps

pub returns-clause-message : goal.returns-clause-message
returns-clause-message c = no_message_is_left

pub returns-clause-request : goal.returns-clause-request
returns-clause-request c = no_request_is_left

pub returns-clause-socket : goal.returns-clause-socket
returns-clause-socket c = no_socket_is_left

pub returns-clause-end : goal.returns-clause-end
returns-clause-end c = no_end_is_left
