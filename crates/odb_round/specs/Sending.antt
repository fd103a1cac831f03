-- What is sent to a client: its text, and of a message that is composed the job and what the protocol has around what is composed of it. [P 7.3, 9.2, 9.5, 9.8, 10.1]
use Rattle.std.specs.Prelude.{ℕ, true, false, List, [], ◌∷◌, take, Option, Some, None, option_map}
use Rattle.serde_json.specs.Written.{compact_text}
use Rattle.odb_atoms.specs.Uuid.{Uuid}
use Rattle.odb_monitor.specs.Job.{Job, Part}
use Rattle.odb_monitor.specs.View.{View, query}
use Rattle.odb_recent.specs.Recent.{Recent, commits_ago, number_of}
use Rattle.odb_request.specs.Request.{Notation, Request}
use Rattle.odb_rpc.specs.Message.{reply}
use Rattle.odb_rpc.specs.Since.{since_result}
use Rattle.odb_schema.specs.Json.{Data}
use Rattle.odb_service.specs.Service.{Service}
use Rattle.odb_service.specs.Session.{Monitor, Revision, Watch, first_result, held_by, notified}
use Rattle.odb_sessions.specs.Composed.{asked_of, first_job, first_updates, later_job, notified_text, resumed_job, resumed_updates}
use Rattle.odb_round.specs.Foreseen.{due_text}
use Rattle.odb_sessions.specs.Marked.{MarkedMonitor}
use Rattle.odb_round.specs.Planned.{Due, first_due, grant_due, text_due, update_due, update_of}
use Rattle.odb_tables.specs.Database.{Db}
use Rattle.odb_wire.specs.Message.{id_of}

-- a message that is composed: the job, and the text of the message by the table updates in it
pub record Framed : Type 0 where
  pub job : Job
  pub text : Data → List ℕ

-- what is sent: its text, and of what it is composed; of nothing, where it was finished when it was queued
pub record Sending : Type 0 where
  pub text : List ℕ
  pub framed : Option Framed

abbrev pub finished : List ℕ → Sending
finished t = record { text = t; framed = None }

-- the message with these updates
abbrev pub sent_with : Framed → Data → Sending
sent_with m d = record { text = m.text d; framed = Some m }

-- ---- what is due

-- of what each request asks: what the client has, and what it is to have
abbrev pub parts_between : List Request → View → View → List Part
parts_between [] V W = []
parts_between (q ∷ qs) [] W = []
parts_between (q ∷ qs) (t ∷ V) [] = []
parts_between (q ∷ qs) (t ∷ V) (a ∷ W) = record { request = q; told = t; asked = a } ∷ parts_between qs V W

-- the job of the reply to a client that has the first of these views
abbrev pub found_job : Notation → List Request → View → View → Job
found_job n qs V W = record { notation = n; first = false; reply = true; parts = parts_between qs V W }

-- the job of the first reply to a client that has this view, or none
abbrev pub first_job_to : Db → Watch → Option View → Job
first_job_to db k None = first_job db k.notation k.requests
first_job_to db k (Some V) = found_job k.notation k.requests V (query db k.requests)

module _ (h : Service) where
  -- what leads a monitor to what these requests select
  abbrev pub update_framed : Revision → List Request → Monitor → Framed
  update_framed revision qs m = record {
    job = later_job m.watch.notation (parts_between qs m.view (query revision.db qs));
    text = λ d. compact_text (notified h revision m.watch d);
  }

  -- the first reply to this request for this monitor
  abbrev pub first_framed : Revision → Data → Watch → Framed
  first_framed revision d k = record {
    job = first_job_to revision.db k (held_by h revision k);
    text = λ u. compact_text (reply (id_of d) (first_result h revision k (held_by h revision k) u));
  }

  abbrev pub framed_due : Revision → Due → Option Framed
  framed_due revision (text_due a d) = None
  framed_due revision (first_due d k) = Some (first_framed revision d k)
  framed_due revision (update_due m qs) = Some (update_framed revision qs m)
  framed_due revision (grant_due d) = None

  abbrev pub due_sending : Revision → Due → Sending
  due_sending revision d = record { text = due_text h revision d; framed = framed_due revision d }

  -- what leads a monitor to these requests, if something of it is shown
  abbrev pub update_sending : Revision → List Request → Monitor → Option Sending
  update_sending revision qs m = option_map (due_sending revision) (update_of h revision.db qs m)

-- ---- the same, by a monitor with its marks

-- the notification to the client of this monitor, where this is the number of the newest commit
abbrev pub notifying : Uuid → MarkedMonitor → Job → Framed
notifying number x j = record { job = j; text = notified_text number x }

-- the reply to this request, with this result by the table updates
abbrev pub replying : Data → (Data → Data) → Job → Framed
replying d result j = record { job = j; text = λ u. compact_text (reply (id_of d) (result u)) }

-- the first reply to who named no commit
abbrev pub whole_sending : Db → Data → MarkedMonitor → Sending
whole_sending db d x = sent_with (replying d (λ u. u) (first_job db x.notation (asked_of x.tables))) (first_updates db x.notation (asked_of x.tables))

-- the first reply where the commit that was named can't be found, and this is the number of the newest
abbrev pub missed_sending : Uuid → Db → Data → MarkedMonitor → Sending
missed_sending number db d x = sent_with (replying d (since_result false number) (first_job db x.notation (asked_of x.tables))) (first_updates db x.notation (asked_of x.tables))

-- the first reply where it was found so many commits ago
abbrev pub found_sending : Recent → ℕ → Db → Data → MarkedMonitor → Sending
found_sending r ago db d x =
    sent_with (replying d (since_result true (number_of r.run r.commits)) (resumed_job (take ago r.undos) db x.notation (asked_of x.tables)))
    (resumed_updates (take ago r.undos) db x.notation (asked_of x.tables))

-- the first reply to who named a commit, where it was found so many commits ago, or not at all
abbrev pub sending_ago : Recent → Db → Data → MarkedMonitor → Option ℕ → Sending
sending_ago r db d x None = missed_sending (number_of r.run r.commits) db d x
sending_ago r db d x (Some ago) = found_sending r ago db d x

-- the first reply to who named this commit
abbrev pub sending_since : Recent → Db → Data → MarkedMonitor → Uuid → Sending
sending_since r db d x v = sending_ago r db d x (commits_ago r.most r.run r.commits v)
