-- A JSON value may go to another thread, and several threads may read it, however deep it is. So may a request.
use denote.Param.Send.{IsSend, IsSync, sendable}
use Rattle.std.proofs.Crossing as heap
use Rattle.std.proofs.MapsCrossing as maps
use Rattle.serde_json.proofs.value.Value.TheLaws.TheKnot as knot
use Rattle.serde_json.specs.contracts.value.Value as Value
use Rattle.odb_wire.specs.contracts.message.Request as Request

pub Value-send : IsSend (Value.the_field).row
Value-send = search (knot.crosses, sendable, heap.crosses, maps.crosses) depth 40

pub Value-sync : IsSync (Value.the_field).row
Value-sync = search (knot.crosses, sendable, heap.crosses, maps.crosses) depth 40

pub Request-send : IsSend (Request.the_field).row
Request-send = search (Value-send, sendable) depth 20

pub Request-sync : IsSync (Request.the_field).row
Request-sync = search (Value-sync, sendable) depth 20
