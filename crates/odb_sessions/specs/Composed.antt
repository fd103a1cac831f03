-- What is composed for the client of a monitor, from the marks for what it was told. [P 9.2, 9.3, 9.8, 10.1]
use Rattle.std.specs.Prelude.{◌≡◌, Bool, true, false, List, [], ◌∷◌, map, Option, Some, None, ℕ, option_map, ◌++◌}
use Rattle.serde_json.specs.Written.{compact_text}
use Rattle.odb_atoms.specs.FinMap.{empty}
use Rattle.odb_atoms.specs.Uuid.{Uuid}
use Rattle.odb_chain.specs.Chains.{Chains, IsLive}
use Rattle.odb_monitor.specs.Job.{Job, Part, updates_of}
use Rattle.odb_monitor.specs.Update.{table_updates}
use Rattle.odb_monitor.specs.View.{delta, nothing, query, selected, shown}
use Rattle.odb_recent.specs.Undo.{Undo, table_ago}
use Rattle.odb_request.specs.Request.{Notation, Request, update_method}
use Rattle.odb_rpc.specs.Message.{notification}
use Rattle.odb_rpc.specs.Since.{update3}
use Rattle.odb_schema.specs.Json.{Data}
use Rattle.odb_service.specs.Session.{Monitor, shapes}
use Rattle.odb_sessions.specs.Marked.{MarkedMonitor, Watched, monitor_of}
use Rattle.odb_tables.specs.Database.{Db, table_at}

-- what the client was told is kept, and it is a content of the table that is asked for
abbrev pub IsKnown : Chains → Watched → Type 0
IsKnown k w = IsLive k w.mark × (w.mark.table ≡ w.request.place)

-- each mark is one of the table that is asked for
abbrev pub AreTheirs : List Watched → Type 0
AreTheirs [] = Unit {0}
AreTheirs (w ∷ ws) = (w.mark.table ≡ w.request.place) × AreTheirs ws

-- what is asked of these tables
abbrev pub asked_of : List Watched → List Request
asked_of ws = map (λ w. w.request) ws

-- the monitor whose client was told so
abbrev pub told_so : Data → Notation → Option Uuid → List Watched → Monitor
told_so i n since ws = monitor_of (record { id = i; notation = n; tables = ws; since = since })

-- of a table what the client has and what it is to have
abbrev pub part_to : Db → Watched → Part
part_to db w = record {
  request = w.request;
  told = selected (record (w.request) { filter = w.told }) w.mark.content;
  asked = selected w.request (table_at db w.request.place);
}

-- a client has what these tables are now, under what is asked
abbrev pub AreNow : Db → List Watched → Type 0
AreNow db ws = map (λ (w : Watched). (part_to db w).told) ws ≡ map (λ (w : Watched). (part_to db w).asked) ws

-- none, where the client has what the table is now under what is asked; or what leads it there
abbrev pub IsLacking : Db → Watched → Option Part → Type 0
IsLacking db w None = (part_to db w).told ≡ (part_to db w).asked
IsLacking db w (Some p) = p ≡ part_to db w

-- of a table of which the client was told nothing
abbrev pub first_part : Db → Request → Part
first_part db q = record { request = q; told = empty; asked = selected q (table_at db q.place) }

-- the part of a first reply, or of what the client lacks
abbrev pub part_in : Bool → Db → Watched → Part
part_in true db = λ w. first_part db w.request
part_in false db = part_to db

-- the job of these parts, of a client that had its first reply
abbrev pub later_job : Notation → List Part → Job
later_job n ps = record { notation = n; first = false; reply = false; parts = ps }

-- the job of what the client of this monitor lacks
abbrev pub owed_job : Db → MarkedMonitor → Job
owed_job db x = later_job x.notation (map (part_to db) x.tables)

-- the job of a client's own tables: of its first reply, or of what it lacks
abbrev pub own_job : Bool → Db → MarkedMonitor → Job
own_job first db x = record { notation = x.notation; first = first; reply = first; parts = map (part_in first db) x.tables }

abbrev pub first_job : Db → Notation → List Request → Job
first_job db n qs = record { notation = n; first = true; reply = true; parts = map (first_part db) qs }

-- of a table what a client has that was told of it as it was before these commits, and what it is to have
abbrev pub part_since : List Undo → Db → Request → Part
part_since us db q = record { request = q; told = selected q (table_ago q.place us (table_at db q.place)); asked = selected q (table_at db q.place) }

-- the job of the reply to a client that has what these requests selected before these commits
abbrev pub resumed_job : List Undo → Db → Notation → List Request → Job
resumed_job us db n qs = record { notation = n; first = false; reply = true; parts = map (part_since us db) qs }

-- what a first reply tells
abbrev pub first_updates : Db → Notation → List Request → Data
first_updates db n qs = table_updates n true (shapes qs) (shown true qs (delta (nothing qs) (query db qs)))

-- what a client is told that has what these requests selected before these commits
abbrev pub resumed_updates : List Undo → Db → Notation → List Request → Data
resumed_updates us db n qs = table_updates n false (shapes qs) (shown false qs (delta (map (λ q. selected q (table_ago q.place us (table_at db q.place))) qs) (query db qs)))

-- the text of the notification with these table updates, where this is the newest commit
abbrev pub notified_text : Uuid → MarkedMonitor → Data → List ℕ
notified_text number x d = compact_text (elim x.since [ None ↦ notification (update_method x.notation) (x.id ∷ d ∷ []) | Some v ↦ update3 x.id number d ])

-- ---- under other requests

-- what the client was told stays
abbrev pub asked_as : Watched → Request → Watched
asked_as w q = record { request = q; told = w.told; mark = w.mark }

abbrev pub all_asked_as : List Watched → List Request → List Watched
all_asked_as [] qs = []
all_asked_as (w ∷ ws) [] = []
all_asked_as (w ∷ ws) (q ∷ qs) = asked_as w q ∷ all_asked_as ws qs

-- what is composed of a job: a text, where something is sent
abbrev pub composition : Job → Option (List ℕ)
composition j = option_map compact_text (updates_of j)

abbrev pub whole_text : List ℕ → List ℕ → List ℕ → List ℕ
whole_text before body after = before ++ (body ++ after)
