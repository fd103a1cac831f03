-- A code of the machine's state, so that it can be what contracts see of a type. Not for reading aloud: that each code has its inverse is all that it says.
use Rattle.std.specs.Prelude.{◌≡◌, ◌⊎◌, ℕ, List, Option, Some, None, refl}
use Rattle.std.specs.Ordering.{nat_cmp}
use mathlib.Core.Logic.{inl, inr}
use Rattle.std.specs.Coded.{Coded, code_by, coded×, coded⊎, coded_ℕ, coded_list, coded_option}
use Rattle.odb_atoms.specs.FinMap as map
use Rattle.odb_atoms.specs.Uuid.{Uuid, uuid_code}
use Rattle.odb_atoms.specs.Value.{value_code}
use Rattle.odb_cond.specs.Filter.{Filter}
use Rattle.odb_locks.specs.Locks.{Locks}
use Rattle.odb_locks.specs.Represented.Lock.{locks_code}
use Rattle.odb_monitor.specs.View.{View}
use Rattle.odb_request.specs.Request.{Request, Notation}
use Rattle.odb_request.specs.Represented.Codes.{filter_code, notation_code, request_code}
use Rattle.odb_schema.specs.Json.{Data}
use Rattle.odb_schema.specs.JsonCode.{data_code}
use Rattle.odb_schema.specs.Represented.Codes.{text_code}
use Rattle.odb_tables.specs.Database.{Db, db_code}
use Rattle.odb_service.specs.Session.{Answers, no_request, to, Earlier, Item, say, start, sync, shift, renamed, stopped, Monitor, Session, Watch}
use Rattle.odb_service.specs.World.{Waiting, World}

abbrev Text : Type 0
Text = List ℕ

-- ---- monitors

abbrev pub watch_code : Coded Watch
watch_code =
    code_by (Data × (Notation × (List Request × Option Uuid))) (coded× data_code (coded× notation_code (coded× (coded_list request_code) (coded_option uuid_code))))
    (λ k. (k.id, (k.notation, (k.requests, k.since)))) (λ p. record { id = p.0; notation = p.1.0; requests = p.1.1.0; since = p.1.1.1 }) (λ k. refl)

abbrev pub view_code : Coded View
view_code = coded_list (map.code uuid_code (coded_list value_code))

abbrev pub monitor_code : Coded Monitor
monitor_code = code_by (Watch × View) (coded× watch_code view_code) (λ m. (m.watch, m.view)) (λ p. record { watch = p.0; view = p.1 }) (λ m. refl)

-- ---- queues

abbrev request_in : Answers → Option Data
request_in no_request = None
request_in (to d) = Some d

abbrev answers_of : Option Data → Answers
answers_of None = no_request
answers_of (Some d) = to d

pub answers_of-request_in : (a : Answers) → answers_of (request_in a) ≡ a
answers_of-request_in no_request = refl
answers_of-request_in (to d) = refl

abbrev pub answers_code : Coded Answers
answers_code = code_by (Option Data) (coded_option data_code) request_in answers_of answers_of-request_in

abbrev Filters : Type 0
Filters = List (Text × Filter)

abbrev filters_code : Coded Filters
filters_code = coded_list (coded× text_code filter_code)

abbrev ItemParts : Type 0
ItemParts = (Answers × Data) ⊎ ((Data × Watch) ⊎ (Data ⊎ ((Data × Filters) ⊎ ((Data × (Data × (Data × Filters))) ⊎ (Data × Data)))))

abbrev item_parts : Item → ItemParts
item_parts (say a d) = inl (a, d)
item_parts (start d k) = inr (inl (d, k))
item_parts (sync i) = inr (inr (inl i))
item_parts (shift i fs) = inr (inr (inr (inl (i, fs))))
item_parts (renamed d old new fs) = inr (inr (inr (inr (inl (d, (old, (new, fs)))))))
item_parts (stopped d i) = inr (inr (inr (inr (inr (d, i)))))

abbrev item_of : ItemParts → Item
item_of (inl p) = say p.0 p.1
item_of (inr (inl p)) = start p.0 p.1
item_of (inr (inr (inl i))) = sync i
item_of (inr (inr (inr (inl p)))) = shift p.0 p.1
item_of (inr (inr (inr (inr (inl p))))) = renamed p.0 p.1.0 p.1.1.0 p.1.1.1
item_of (inr (inr (inr (inr (inr p))))) = stopped p.0 p.1

pub item_of-item_parts : (i : Item) → item_of (item_parts i) ≡ i
item_of-item_parts (say a d) = refl
item_of-item_parts (start d k) = refl
item_of-item_parts (sync i) = refl
item_of-item_parts (shift i fs) = refl
item_of-item_parts (renamed d old new fs) = refl
item_of-item_parts (stopped d i) = refl

abbrev pub item_code : Coded Item
item_code =
    code_by ItemParts
    (coded⊎ (coded× answers_code data_code) (coded⊎ (coded× data_code watch_code) (coded⊎ data_code (coded⊎ (coded× data_code filters_code) (coded⊎ (coded× data_code (coded× data_code (coded× data_code filters_code))) (coded× data_code data_code))))))
    item_parts item_of item_of-item_parts

abbrev pub session_code : Coded Session
session_code = code_by (List Item × List Monitor) (coded× (coded_list item_code) (coded_list monitor_code)) (λ s. (s.queue, s.monitors)) (λ p. record { queue = p.0; monitors = p.1 }) (λ s. refl)

-- ---- the state

abbrev pub waiting_code : Coded Waiting
waiting_code =
    code_by (ℕ × (Data × (List Data × (List Uuid × (ℕ × (Option ℕ × ℕ))))))
    (coded× coded_ℕ (coded× data_code (coded× (coded_list data_code) (coded× (coded_list uuid_code) (coded× coded_ℕ (coded× (coded_option coded_ℕ) coded_ℕ))))))
    (λ p. (p.session, (p.request, (p.operations, (p.fresh, (p.arrival, (p.deadline, p.tried)))))))
    (λ q. record { session = q.0; request = q.1.0; operations = q.1.1.0; fresh = q.1.1.1.0; arrival = q.1.1.1.1.0; deadline = q.1.1.1.1.1.0; tried = q.1.1.1.1.1.1 }) (λ p. refl)

abbrev pub earlier_code : Coded Earlier
earlier_code =
    code_by (ℕ × (ℕ × List Db)) (coded× coded_ℕ (coded× coded_ℕ (coded_list db_code)))
    (λ e. (e.run, (e.most, e.contents))) (λ p. record { run = p.0; most = p.1.0; contents = p.1.1 }) (λ e. refl)

abbrev pub world_code : Coded World
world_code =
    code_by (Db × (ℕ × (Earlier × (ℕ × (List Waiting × (Locks × map.FinMap nat_cmp Session))))))
    (coded× db_code (coded× coded_ℕ (coded× earlier_code (coded× coded_ℕ (coded× (coded_list waiting_code) (coded× locks_code (map.code coded_ℕ session_code)))))))
    (λ w. (w.db, (w.commits, (w.earlier, (w.now, (w.waiting, (w.locks, w.sessions)))))))
    (λ p. record { db = p.0; commits = p.1.0; earlier = p.1.1.0; now = p.1.1.1.0; waiting = p.1.1.1.1.0; locks = p.1.1.1.1.1.0; sessions = p.1.1.1.1.1.1 }) (λ w. refl)
