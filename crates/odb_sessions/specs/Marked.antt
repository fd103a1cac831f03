-- Sessions with marks, each in the place of what a client has of a table; and what the machine sees of them.
use Rattle.std.specs.Prelude.{ℕ, List, [], ◌++◌, map, flat_map, Option, None}
use Rattle.std.specs.Ordering.{nat_cmp}
use Rattle.odb_atoms.specs.FinMap.{FinMap, entries_of, from_entries}
use Rattle.odb_atoms.specs.Uuid.{Uuid}
use Rattle.odb_chain.specs.Chains.{Mark}
use Rattle.odb_cond.specs.Filter.{Filter}
use Rattle.odb_monitor.specs.View.{View, selected}
use Rattle.odb_request.specs.Request.{Notation, Request}
use Rattle.odb_schema.specs.Json.{Data}
use Rattle.odb_service.specs.Session.{Item, Monitor, Session, Watch, start}

-- one table of a monitor: what is asked, and what the client was told of it: the content of a mark, under a filter
pub record Watched : Type 0 where
  pub request : Request
  pub told : Filter
  pub mark : Mark

pub record MarkedMonitor : Type 0 where
  pub id : Data
  pub notation : Notation
  pub tables : List Watched
  pub since : Option Uuid

-- what is queued: an item without marks; or, for the request d, a monitor whose first reply is due, with its marks
pub data MarkedItem : Type 0 where
  plain : Item → MarkedItem
  due : Data → MarkedMonitor → MarkedItem

-- a session, and the number of what its monitors ask, if that has one
pub record MarkedSession : Type 0 where
  pub queue : List MarkedItem
  pub monitors : List MarkedMonitor
  pub watch : Option ℕ

abbrev pub Sessions : Type 0
Sessions = FinMap nat_cmp MarkedSession

-- ---- what the machine sees of it

abbrev pub watch_of : MarkedMonitor → Watch
watch_of h = record { id = h.id; notation = h.notation; requests = map (λ w. w.request) h.tables; since = h.since }

abbrev pub view_of : MarkedMonitor → View
view_of h = map (λ w. selected (record (w.request) { filter = w.told }) w.mark.content) h.tables

abbrev pub monitor_of : MarkedMonitor → Monitor
monitor_of h = record { watch = watch_of h; view = view_of h }

abbrev pub item_seen : MarkedItem → Item
item_seen (plain i) = i
item_seen (due d h) = start d (watch_of h)

abbrev pub seen : MarkedSession → Session
seen x = record { queue = map item_seen x.queue; monitors = map monitor_of x.monitors }

abbrev pub seen_entry : ℕ × MarkedSession → ℕ × Session
seen_entry e = (e.0, seen e.1)

abbrev pub all_seen : Sessions → FinMap nat_cmp Session
all_seen m = from_entries (map seen_entry (entries_of m))

-- ---- marks

abbrev pub table_marks : List Watched → List Mark
table_marks ws = map (λ w. w.mark) ws

abbrev pub marks_in : MarkedMonitor → List Mark
marks_in h = table_marks h.tables

abbrev pub marks_due : MarkedItem → List Mark
marks_due (plain i) = []
marks_due (due d h) = marks_in h

-- those of its monitors, and those of monitors whose first reply is due
abbrev pub marks_of : MarkedSession → List Mark
marks_of x = flat_map marks_in x.monitors ++ flat_map marks_due x.queue

-- nothing is queued, and there is no monitor
abbrev pub empty_session : MarkedSession
empty_session = record { queue = []; monitors = []; watch = None }
