-- A hub may be used by several threads at once, and an outbox may go to another.
use denote.RattleType.{RattleType}
use denote.Param.Send.{IsSend, IsSync, sendable}
use Rattle.std.proofs.Crossing as heap
use Rattle.std.proofs.sync.ledger.Book.TheSendSync as book
use Rattle.std.proofs.sync.ledger.Share.TheSendSync as share
use Rattle.std.specs.contracts.sync.ledger.Book as Book
use Rattle.std.specs.contracts.sync.ledger.Share as Share
use Rattle.std.specs.declared.sync.ledger.Ledger.{Ghosts}
use Rattle.odb_core.proofs.Crossing.{Core-send}
use Rattle.odb_hub.proofs.failure.TransactionFailure.TheSendSync as failure
use Rattle.odb_hub.proofs.journal.Journal.TheSendSync as journal
use Rattle.odb_hub.proofs.outbox.Outbox.TheSendSync as outbox
use Rattle.odb_hub.proofs.rings.Rings.TheSendSync as rings
use Rattle.odb_hub.specs.contracts.counted.Counted as Counted
use Rattle.odb_hub.specs.contracts.failure.TransactionFailure as TransactionFailure
use Rattle.odb_hub.specs.contracts.hub.Hub as Hub
use Rattle.odb_hub.specs.contracts.journal.Journal as Journal
use Rattle.odb_hub.specs.contracts.outbox.Outbox as Outbox
use Rattle.odb_hub.specs.contracts.rings.Rings as Rings
use Rattle.odb_hub.specs.contracts.state.HubState as HubState
use Rattle.odb_par.proofs.workers.Workers.TheSendSync as workers
use Rattle.odb_par.specs.contracts.workers.Workers as Workers

Journal-send : IsSend (Journal.the_field).row
Journal-send = journal.the_send

pub Outbox-send : IsSend (Outbox.the_field).row
Outbox-send = outbox.the_send

Rings-send : IsSend (Rings.the_field).row
Rings-send = rings.the_send

TransactionFailure-send : IsSend TransactionFailure.the_row
TransactionFailure-send = failure.the_send

Workers-send : IsSend (Workers.the_field).row
Workers-send = workers.the_send

HubState-send : IsSend (HubState.the_field).row
HubState-send = search (Core-send, Journal-send, Rings-send, TransactionFailure-send, Workers-send, sendable, heap.crosses) depth 40 fits 20000

Book-send : (L : RattleType) (g : Ghosts L.Denot) → IsSend L → IsSend (Book.the_row L g)
Book-send L g s = search (book.the_send, sendable)

Share-send : (L : RattleType) (g : Ghosts L.Denot) → IsSend L → IsSend (Share.the_row L g)
Share-send L g s = search (share.the_send, sendable)

Counted-send : (L : RattleType) (g : Ghosts L.Denot) → IsSend L → IsSend (Counted.the_field L g).row
Counted-send L g s = search (HubState-send, Book-send, Share-send, sendable, heap.crosses) depth 20

pub Hub-sync : (L : RattleType) (g : Ghosts L.Denot) → IsSend L → IsSync (Hub.the_field L g).row
Hub-sync L g s = search (Counted-send, sendable, heap.crosses) depth 20
