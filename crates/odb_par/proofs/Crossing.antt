-- Jobs, what was found for them, and their rows as they are listed, may be lent to another thread: chains, a monitor with its marks, and the ways in which something is composed.
use denote.Param.Send.{IsSend, IsSync, owning_send, part_keyless, sendable}
use denote.Ref.{NamedLft}
use Rattle.std.proofs.Crossing as heap
use Rattle.odb_atoms.proofs.row.Row.TheSendSync as row
use Rattle.odb_atoms.specs.contracts.row.Row as Row
use Rattle.odb_chain.proofs.chains.Chains.TheSendSync as chains
use Rattle.odb_chain.specs.contracts.chains.Chains as Chains
use Rattle.odb_chain.specs.contracts.content.Content as Content
use Rattle.odb_chain.specs.contracts.mark.Mark as Mark
use Rattle.odb_cond.proofs.filter.Filter.TheSendSync as filter
use Rattle.odb_cond.specs.contracts.filter.Filter as Filter
use Rattle.odb_monitor.proofs.job.Job.TheSendSync as found
use Rattle.odb_monitor.proofs.listing.Listing.TheSendSync as listing
use Rattle.odb_monitor.specs.contracts.job.Job as Found
use Rattle.odb_monitor.specs.contracts.listing.Listing as Listing
use Rattle.odb_par.specs.contracts.picked.Picked as Picked
use Rattle.odb_recent.proofs.Crossing.{Recent-sync}
use Rattle.odb_request.proofs.request.Request.TheSendSync as request
use Rattle.odb_request.specs.contracts.change.Change as Change
use Rattle.odb_request.specs.contracts.request.Request as Request
use Rattle.odb_schema.proofs.schema.Schema.TheSendSync as schema
use Rattle.odb_schema.specs.contracts.schema.Schema as Schema
use Rattle.odb_wire.proofs.JsonCrosses.{Value-send, Value-sync}
use Rattle.odb_sessions.specs.contracts.id.Id as Id
use Rattle.odb_sessions.specs.contracts.item.Changes as Changes
use Rattle.odb_round.specs.contracts.job.RoundJob as Job
use Rattle.odb_sessions.specs.contracts.monitor.Monitor as Monitor
use Rattle.odb_sessions.specs.contracts.monitor.Watching as Watching
use Rattle.odb_sessions.specs.contracts.under.Under as Under
use Rattle.odb_sessions.specs.contracts.way.Way as Way

-- a content owns nothing
Content-sync : IsSync Content.the_row
Content-sync = record { shared = λ d b o κ q. part_keyless Content.the_row (owning_send Content.the_type tt (λ d. tt) (λ k x w. tt)) q d b o }

Mark-sync : IsSync (Mark.the_field).row
Mark-sync = search (Content-sync, sendable) depth 20

Chains-sync : IsSync (Chains.the_field).row
Chains-sync = chains.the_sync

Id-send : IsSend (Id.the_field).row
Id-send = search (Value-send, sendable, heap.crosses) depth 20

Id-sync : IsSync (Id.the_field).row
Id-sync = search (Value-sync, sendable, heap.crosses) depth 20

Filter-send : IsSend (Filter.the_field).row
Filter-send = filter.the_send

Filter-sync : IsSync (Filter.the_field).row
Filter-sync = filter.the_sync

Schema-send : IsSend (Schema.the_field).row
Schema-send = schema.the_send

Schema-sync : IsSync (Schema.the_field).row
Schema-sync = schema.the_sync

Request-sync : IsSync (Request.the_field).row
Request-sync = request.the_sync

Change-sync : IsSync (Change.the_field).row
Change-sync = search (Filter-send, Filter-sync, sendable, heap.crosses) depth 20

Changes-sync : IsSync (Changes.the_field).row
Changes-sync = search (Schema-send, Schema-sync, Change-sync, sendable, heap.crosses) depth 20

Watching-sync : IsSync (Watching.the_field).row
Watching-sync = search (Request-sync, Filter-send, Filter-sync, Mark-sync, sendable, heap.crosses) depth 20

Monitor-sync : IsSync (Monitor.the_field).row
Monitor-sync = search (Id-send, Id-sync, Watching-sync, sendable, heap.crosses) depth 20

Under-sync : (κ : NamedLft) → IsSync (Under.the_field κ).row
Under-sync κ = search (Changes-sync, sendable, heap.crosses) depth 20

Way-sync : (κ : NamedLft) → IsSync (Way.the_field κ).row
Way-sync κ = search (Under-sync, Recent-sync, sendable, heap.crosses) depth 20

Found-sync : (κ : NamedLft) → IsSync (Found.the_field κ).row
Found-sync κ = found.the_sync κ

Job-sync : (κ : NamedLft) → IsSync (Job.the_field κ).row
Job-sync κ = search (Chains-sync, Monitor-sync, Way-sync, Request-sync, Found-sync, sendable, heap.crosses) depth 20

pub Listing-sync : (κ : NamedLft) → IsSync (Listing.the_field κ).row
Listing-sync κ = listing.the_sync κ

pub Picked-sync : (κ κ' : NamedLft) → IsSync (Picked.the_field κ κ').row
Picked-sync κ κ' = search (Job-sync, Found-sync, sendable, heap.crosses) depth 20

pub ruleset crosses = (Picked-sync, Listing-sync, sendable, heap.crosses)

pub Row-sync : IsSync (Row.the_field).row
Row-sync = row.the_sync

pub ruleset rows_cross = (Row-sync, sendable, heap.crosses)
