-- Sessions may go to another thread, with the ids of monitors, which are JSON values.
use denote.Param.Send.{IsSend, IsSync, sendable}
use Rattle.std.proofs.Crossing as heap
use Rattle.std.proofs.MapsCrossing as maps
use Rattle.odb_cond.proofs.filter.Filter.TheSendSync as filter
use Rattle.odb_cond.specs.contracts.filter.Filter as Filter
use Rattle.odb_request.specs.contracts.change.Change as Change
use Rattle.odb_schema.proofs.schema.Schema.TheSendSync as schema
use Rattle.odb_schema.specs.contracts.schema.Schema as Schema
use Rattle.odb_wire.proofs.JsonCrosses.{Value-send, Value-sync}
use Rattle.odb_sessions.proofs.granted.Granted.TheSendSync as granted
use Rattle.odb_sessions.proofs.monitor.Watching.TheSendSync as watching
use Rattle.odb_sessions.proofs.origin.Origin.TheSendSync as origin
use Rattle.odb_sessions.proofs.past.Past.TheSendSync as past
use Rattle.slab.proofs.Slab.TheSendSync as slab
use Rattle.odb_interest.proofs.Crossing.{Interest-send}
use Rattle.odb_recent.proofs.Crossing.{Recent-send}
use Rattle.odb_queue.proofs.finished.Finished.TheSendSync as finished
use Rattle.odb_queue.specs.contracts.finished.Finished as Finished
use Rattle.odb_sessions.specs.contracts.granted.Granted as Granted
use Rattle.odb_sessions.specs.contracts.id.Id as Id
use Rattle.odb_sessions.specs.contracts.item.Changes as Changes
use Rattle.odb_sessions.specs.contracts.item.Item as Item
use Rattle.odb_sessions.specs.contracts.item.Renamed as Renamed
use Rattle.odb_sessions.specs.contracts.item.Shift as Shift
use Rattle.odb_sessions.specs.contracts.item.FirstReply as FirstReply
use Rattle.odb_sessions.specs.contracts.item.Stopped as Stopped
use Rattle.odb_sessions.specs.contracts.monitor.Monitor as Monitor
use Rattle.odb_sessions.specs.contracts.monitor.Watching as Watching
use Rattle.odb_sessions.specs.contracts.numbered.Numbered as Numbered
use Rattle.odb_sessions.specs.contracts.origin.Origin as Origin
use Rattle.odb_sessions.specs.contracts.past.Past as Past
use Rattle.odb_sessions.specs.contracts.queue.Queue as Queue
use Rattle.odb_sessions.specs.contracts.refreshing.Refreshing as Refreshing
use Rattle.odb_sessions.specs.contracts.session.Session as Session
use Rattle.odb_sessions.specs.contracts.sessions.Sessions as Sessions
use Rattle.odb_sessions.specs.contracts.watch.Watch as Watch

Id-send : IsSend (Id.the_field).row
Id-send = search (Value-send, sendable, heap.crosses) depth 20

Id-sync : IsSync (Id.the_field).row
Id-sync = search (Value-sync, sendable, heap.crosses) depth 20

Finished-send : IsSend Finished.the_row
Finished-send = finished.the_send

Granted-send : IsSend (Granted.the_field).row
Granted-send = granted.the_send

Origin-send : IsSend (Origin.the_field).row
Origin-send = origin.the_send

Filter-send : IsSend (Filter.the_field).row
Filter-send = filter.the_send

Filter-sync : IsSync (Filter.the_field).row
Filter-sync = filter.the_sync

Schema-send : IsSend (Schema.the_field).row
Schema-send = schema.the_send

Schema-sync : IsSync (Schema.the_field).row
Schema-sync = schema.the_sync

Change-send : IsSend (Change.the_field).row
Change-send = search (Filter-send, Filter-sync, sendable, heap.crosses) depth 20

Changes-send : IsSend (Changes.the_field).row
Changes-send = search (Schema-send, Schema-sync, Change-send, sendable, heap.crosses) depth 20

Watching-send : IsSend (Watching.the_field).row
Watching-send = watching.the_send

Past-send : IsSend (Past.the_field).row
Past-send = past.the_send

Refreshing-send : IsSend (Refreshing.the_field).row
Refreshing-send = search (sendable, heap.crosses) depth 20

Monitor-send : IsSend (Monitor.the_field).row
Monitor-send = search (Id-send, Id-sync, Watching-send, sendable, heap.crosses) depth 20

FirstReply-send : IsSend (FirstReply.the_field).row
FirstReply-send = search (Origin-send, Monitor-send, sendable, heap.crosses) depth 20

Shift-send : IsSend (Shift.the_field).row
Shift-send = search (Id-send, Id-sync, Changes-send, sendable, heap.crosses) depth 20

Renamed-send : IsSend (Renamed.the_field).row
Renamed-send = search (Id-send, Id-sync, Changes-send, Granted-send, sendable, heap.crosses) depth 20

Stopped-send : IsSend (Stopped.the_field).row
Stopped-send = search (Id-send, Id-sync, Granted-send, sendable, heap.crosses) depth 20

Item-send : IsSend (Item.the_field).row
Item-send = search (Finished-send, FirstReply-send, Id-send, Id-sync, Shift-send, Renamed-send, Stopped-send, sendable, heap.crosses) depth 20

Queue-send : IsSend (Queue.the_field).row
Queue-send = search (Item-send, sendable, heap.crosses) depth 20

Watch-send : IsSend (Watch.the_field).row
Watch-send = search (sendable, heap.crosses) depth 20

Session-send : IsSend (Session.the_field).row
Session-send = search (Queue-send, Monitor-send, Watch-send, sendable, heap.crosses) depth 20

Numbered-send : IsSend (Numbered.the_field).row
Numbered-send = search (Session-send, slab.the_send, sendable, heap.crosses, maps.crosses) depth 20

pub Sessions-send : IsSend (Sessions.the_field).row
Sessions-send = search (Past-send, Recent-send, Numbered-send, Interest-send, Refreshing-send, sendable, heap.crosses, maps.crosses) depth 20
