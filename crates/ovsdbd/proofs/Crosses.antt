-- The daemon and a thread's desk may be used by several threads at once, and what the threads capture may go to them.
use denote.RattleType.{RattleType}
use denote.Param.Send.{IsSend, IsSync, sendable}
use Rattle.mio.proofs.poll.Poll.TheSendSync as poll
use Rattle.mio.specs.contracts.poll.Poll as Poll
use Rattle.std.proofs.Crossing as heap
use Rattle.std.specs.contracts.time.Instant as Instant
use Rattle.std.specs.declared.sync.ledger.Ledger.{Ghosts}
use Rattle.odb_front.proofs.answers.Answers.TheSendSync as answers
use Rattle.odb_front.proofs.databases.Databases.TheSendSync as databases
use Rattle.odb_front.proofs.ids.IdText.TheSendSync as id
use Rattle.odb_front.proofs.ids.Ids.TheSendSync as ids
use Rattle.odb_front.specs.contracts.answers.Answers as Answers
use Rattle.odb_front.specs.contracts.databases.Databases as Databases
use Rattle.odb_front.specs.contracts.ids.IdText as IdText
use Rattle.odb_front.specs.contracts.ids.Ids as Ids
use Rattle.odb_hub.proofs.Crossing.{Hub-sync}
use Rattle.odb_par.proofs.workers.Workers.TheSendSync as workers
use Rattle.odb_par.specs.contracts.workers.Workers as Workers
use Rattle.ovsdbd.proofs.daemon.Patience.TheSendSync as patience
use Rattle.ovsdbd.proofs.desk.Desk.TheSendSync as desk
use Rattle.ovsdbd.proofs.notices.Notices.TheSendSync as notices
use Rattle.ovsdbd.proofs.pace.Pace.TheSendSync as pace
use Rattle.ovsdbd.specs.contracts.daemon.Daemon as Daemon
use Rattle.ovsdbd.specs.contracts.daemon.Daemons as Daemons
use Rattle.ovsdbd.specs.contracts.daemon.Patience as Patience
use Rattle.ovsdbd.specs.contracts.desk.Desk as Desk
use Rattle.ovsdbd.specs.contracts.front.FrontEnd as FrontEnd
use Rattle.ovsdbd.specs.contracts.notices.Notices as Notices
use Rattle.ovsdbd.specs.contracts.pace.Pace as Pace
use Rattle.ovsdbd.specs.contracts.second.Second as Second
use Rattle.ovsdbd.specs.contracts.server_database.ServerBegun as ServerBegun

pub Poll-send : IsSend Poll.the_row
Poll-send = poll.the_send

pub Desk-sync : IsSync Desk.the_row
Desk-sync = desk.the_sync

pub Desk-send : IsSend Desk.the_row
Desk-send = desk.the_send

Patience-sync : IsSync Patience.the_row
Patience-sync = patience.the_sync

Notices-sync : IsSync Notices.the_row
Notices-sync = notices.the_sync

Notices-send : IsSend Notices.the_row
Notices-send = notices.the_send

Pace-sync : IsSync Pace.the_row
Pace-sync = pace.the_sync

Workers-sync : IsSync (Workers.the_field).row
Workers-sync = workers.the_sync

Instant-sync : IsSync Instant.the_row
Instant-sync = search (sendable, heap.crosses) depth 20

Answers-sync : IsSync Answers.the_row
Answers-sync = answers.the_sync

Ids-sync : IsSync (Ids.the_field).row
Ids-sync = ids.the_sync

Databases-sync : IsSync (Databases.the_field).row
Databases-sync = databases.the_sync

IdText-sync : IsSync (IdText.the_field).row
IdText-sync = id.the_sync

ServerBegun-sync : IsSync ServerBegun.the_row
ServerBegun-sync = search (sendable, heap.crosses) depth 40

FrontEnd-sync : IsSync FrontEnd.the_row
FrontEnd-sync = search (ServerBegun-sync, Databases-sync, Answers-sync, Ids-sync, sendable, heap.crosses) depth 40

pub Daemon-sync : (L : RattleType) (g : Ghosts L.Denot) → IsSend L → IsSync (Daemon.the_field L g).row
Daemon-sync L g s = search (Hub-sync, Desk-sync, Desk-send, Notices-sync, Notices-send, notices.the_field_sync, Patience-sync, Pace-sync, Workers-sync, Instant-sync, sendable, heap.crosses) depth 40 fits 20000

Second-sync : (M : RattleType) (g : Ghosts M.Denot) → IsSend M → IsSync (Second.the_field M g).row
Second-sync M g s = search (Daemon-sync, IdText-sync, sendable, heap.crosses) depth 40 fits 20000

pub Daemons-sync : (L : RattleType) (g : Ghosts L.Denot) (M : RattleType) (h : Ghosts M.Denot) → IsSend L → IsSend M → IsSync (Daemons.the_field L M g h).row
Daemons-sync L g M h s t = search (Daemon-sync, Second-sync, FrontEnd-sync, sendable, heap.crosses) depth 40 fits 20000

pub ruleset crosses = (Daemon-sync, Daemons-sync, Desk-sync, Poll-send, sendable, heap.crosses)
