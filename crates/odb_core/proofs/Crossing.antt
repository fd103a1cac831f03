-- A core may go to another thread, with the requests of its transactions that wait.
use denote.Param.Send.{IsSend, IsSync, sendable}
use Rattle.std.proofs.Crossing as heap
use Rattle.std.proofs.MapsCrossing as maps
use Rattle.odb_wire.proofs.JsonCrosses.{Request-send, Request-sync}
use Rattle.odb_sessions.proofs.Crossing as book
use Rattle.odb_locks.specs.contracts.locks.Locks as Locks
use Rattle.odb_locks.proofs.locks.Locks.TheSendSync as locks
use Rattle.odb_queue.specs.contracts.served_schema.ServedSchema as ServedSchema
use Rattle.odb_queue.proofs.served_schema.ServedSchema.TheSendSync as served
use Rattle.odb_core.specs.contracts.submitted.Submitted as Submitted
use Rattle.odb_core.specs.contracts.resting.Resting as Resting
use Rattle.odb_core.specs.contracts.counts.Counts as Counts
use Rattle.odb_core.specs.contracts.waiting.Waiting as Waiting
use Rattle.odb_core.specs.contracts.waiting_list.WaitingList as WaitingList
use Rattle.odb_core.specs.contracts.failed.Failed as Failed
use Rattle.odb_core.specs.contracts.failures.Failures as Failures
use Rattle.odb_core.specs.contracts.server.Core as Core

Submitted-send : IsSend (Submitted.the_field).row
Submitted-send = search (Request-send, sendable, heap.crosses) depth 20

Submitted-sync : IsSync (Submitted.the_field).row
Submitted-sync = search (Request-sync, sendable, heap.crosses) depth 20

Resting-send : IsSend (Resting.the_field).row
Resting-send = search (Submitted-send, sendable, heap.crosses) depth 20

Resting-sync : IsSync (Resting.the_field).row
Resting-sync = search (Submitted-sync, sendable, heap.crosses) depth 20

Waiting-send : IsSend (Waiting.the_field).row
Waiting-send = search (Resting-send, Resting-sync, sendable, heap.crosses) depth 20

Counts-send : IsSend (Counts.the_field).row
Counts-send = search (sendable, heap.crosses, maps.crosses) depth 20

WaitingList-send : IsSend (WaitingList.the_field).row
WaitingList-send = search (Counts-send, Waiting-send, sendable, heap.crosses) depth 20

Failed-send : IsSend (Failed.the_field).row
Failed-send = search (Waiting-send, sendable, heap.crosses) depth 20

Failures-send : IsSend (Failures.the_field).row
Failures-send = search (Failed-send, sendable, heap.crosses) depth 20

Locks-send : IsSend (Locks.the_field).row
Locks-send = locks.the_send

ServedSchema-send : IsSend (ServedSchema.the_field).row
ServedSchema-send = served.the_send

pub Core-send : IsSend (Core.the_field).row
Core-send = search (Locks-send, book.Sessions-send, ServedSchema-send, WaitingList-send, Failures-send, sendable, heap.crosses) depth 20
