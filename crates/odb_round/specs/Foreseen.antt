-- What a plan foresees: what clients have once so much of a queue was taken, and the text that comes. [P 10.1]
use Rattle.std.specs.Prelude.{ℕ, zero, suc, List, Option, Some, None, flat_map, map, slice_get}
use Rattle.std.specs.List.{AllByRecursion}
use Rattle.serde_json.specs.Written.{compact_text}
use Rattle.odb_chain.specs.Chains.{Chains, Mark}
use Rattle.odb_monitor.specs.Job.{Job}
use Rattle.odb_monitor.specs.View.{View, query}
use Rattle.odb_recent.specs.Recent.{Recent}
use Rattle.odb_schema.specs.Schema.{Schema}
use Rattle.odb_service.specs.Service.{Service}
use Rattle.odb_service.specs.Session.{Item, Monitor, Revision, refilter}
use Rattle.odb_sessions.specs.Alike.{Likeness}
use Rattle.odb_sessions.specs.Composed.{asked_of}
use Rattle.odb_sessions.specs.Marked.{MarkedMonitor, marks_in, view_of, watch_of}
use Rattle.odb_round.specs.OfSchema.{AreOfSchema}
use Rattle.odb_round.specs.Planned.{Due, out_of}
use Rattle.odb_round.specs.Known.{Basis}
use Rattle.odb_tables.specs.Database.{Db}
use Rattle.odb_sessions.specs.Filtered.{Filters}

-- what the round stands on, the database with its past, its last commits, the jobs so far and what each is alike by, and a session's monitors, as they are kept, and once so much of its queue was taken
pub record Foreseen : Type 0 where
  pub basis : Basis
  pub chains : Chains
  pub recent : Recent
  pub jobs : List Job
  pub likenesses : List Likeness
  pub marked : List MarkedMonitor
  pub monitors : List Monitor

-- a monitor: its client has what it was told, or what its tables are now under these filters
pub record Ahead : Type 0 where
  pub marked : MarkedMonitor
  pub told : Option Filters

abbrev pub view_ahead : Db → MarkedMonitor → Option Filters → View
view_ahead db x None = view_of x
view_ahead db x (Some fs) = query db (refilter fs (watch_of x).requests)

-- as the machine has it
abbrev pub seen_ahead : Db → Ahead → Monitor
seen_ahead db a = record { watch = watch_of a.marked; view = view_ahead db a.marked a.told }

abbrev pub marks_ahead : List Ahead → List Mark
marks_ahead xs = flat_map (λ a. marks_in a.marked) xs

-- what they ask is of the schema
abbrev pub AreAheadOf : Schema → List Ahead → Type 0
AreAheadOf s xs = AllByRecursion (λ a. AreOfSchema s (asked_of a.marked.tables)) xs

abbrev pub marked_ahead : List Ahead → List MarkedMonitor
marked_ahead xs = map (λ a. a.marked) xs

-- nothing is foreseen of it
abbrev pub as_told : MarkedMonitor → Ahead
as_told x = record { marked = x; told = None }

-- ---- texts

-- the text of what is due
abbrev pub due_text : Service → Revision → Due → List ℕ
due_text h revision d = compact_text (out_of h revision d).message

-- the last of so many items
abbrev pub last_used : ℕ → List Item → Option Item
last_used zero is = None
last_used (suc n) is = slice_get is n
