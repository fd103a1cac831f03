-- The codes of what contracts see of the code's types.
use Rattle.std.specs.Prelude.{◌≡◌, ◌⊎◌, ℕ, List, Option, refl}
use mathlib.Core.Logic.{inl, inr}
use Rattle.std.specs.Ordering.{nat_cmp}
use Rattle.std.specs.Coded.{Coded, code_by, coded×, coded⊎, coded_ℕ, coded_list, coded_option}
use Rattle.odb_atoms.specs.FinMap as map
use Rattle.odb_atoms.specs.Uuid.{Uuid, uuid_code}
use Rattle.odb_chain.specs.Chains.{Chains, Mark}
use Rattle.odb_chain.specs.Represented.Codes.{chains_code, mark_code}
use Rattle.odb_cond.specs.Filter.{Filter}
use Rattle.odb_request.specs.Request.{Notation, Request, Shape}
use Rattle.odb_request.specs.Represented.Codes.{filter_code, notation_code, request_code, shape_code}
use Rattle.odb_schema.specs.Json.{Data}
use Rattle.odb_schema.specs.JsonCode.{data_code}
use Rattle.odb_service.specs.Session.{Earlier, Item, Session, Watch}
use Rattle.odb_service.specs.WorldCode.{earlier_code, item_code, session_code, watch_code}
use Rattle.odb_tables.specs.Database.{Db, db_code}
use Rattle.odb_sessions.specs.Book.{Book}
use Rattle.odb_sessions.specs.FirstTexts.{FirstText}
use Rattle.odb_sessions.specs.Marked.{MarkedItem, MarkedMonitor, MarkedSession, Sessions, Watched, due, plain}
use Rattle.odb_sessions.specs.Named.{Named}
use Rattle.odb_sessions.specs.Started.{Starting}
use Rattle.odb_sessions.specs.Stopped.{Changing}
use Rattle.odb_sessions.specs.Told.{ToldMarks}

abbrev pub watched_code : Coded Watched
watched_code = code_by (Request × (Filter × Mark)) (coded× request_code (coded× filter_code mark_code)) (λ w. (w.request, (w.told, w.mark))) (λ p. record { request = p.0; told = p.1.0; mark = p.1.1 }) (λ w. refl)

abbrev pub marked_monitor_code : Coded MarkedMonitor
marked_monitor_code = code_by (Data × (Notation × (List Watched × Option Uuid))) (coded× data_code (coded× notation_code (coded× (coded_list watched_code) (coded_option uuid_code)))) (λ h. (h.id, (h.notation, (h.tables, h.since)))) (λ p. record { id = p.0; notation = p.1.0; tables = p.1.1.0; since = p.1.1.1 }) (λ h. refl)

abbrev marked_item_parts : MarkedItem → Item ⊎ (Data × MarkedMonitor)
marked_item_parts (plain i) = inl i
marked_item_parts (due d h) = inr (d, h)

abbrev marked_item_from : Item ⊎ (Data × MarkedMonitor) → MarkedItem
marked_item_from (inl i) = plain i
marked_item_from (inr p) = due p.0 p.1

pub marked_item_from-marked_item_parts : (q : MarkedItem) → marked_item_from (marked_item_parts q) ≡ q
marked_item_from-marked_item_parts (plain i) = refl
marked_item_from-marked_item_parts (due d h) = refl

abbrev pub marked_item_code : Coded MarkedItem
marked_item_code = code_by (Item ⊎ (Data × MarkedMonitor)) (coded⊎ item_code (coded× data_code marked_monitor_code)) marked_item_parts marked_item_from marked_item_from-marked_item_parts

abbrev pub marked_session_code : Coded MarkedSession
marked_session_code = code_by (List MarkedItem × (List MarkedMonitor × Option ℕ)) (coded× (coded_list marked_item_code) (coded× (coded_list marked_monitor_code) (coded_option coded_ℕ))) (λ x. (x.queue, (x.monitors, x.watch))) (λ p. record { queue = p.0; monitors = p.1.0; watch = p.1.1 }) (λ x. refl)

abbrev pub sessions_code : Coded Sessions
sessions_code = map.code coded_ℕ marked_session_code

abbrev pub book_code : Coded Book
book_code = code_by (Db × (ℕ × (Earlier × map.FinMap nat_cmp Session))) (coded× db_code (coded× coded_ℕ (coded× earlier_code (map.code coded_ℕ session_code)))) (λ b. (b.db, (b.commits, (b.earlier, b.sessions)))) (λ p. record { db = p.0; commits = p.1.0; earlier = p.1.1.0; sessions = p.1.1.1 }) (λ b. refl)

abbrev pub starting_code : Coded Starting
starting_code = code_by (Data × Watch) (coded× data_code watch_code) (λ s. (s.request, s.watch)) (λ p. record { request = p.0; watch = p.1 }) (λ s. refl)

abbrev pub changing_code : Coded Changing
changing_code =
    code_by (Data × (Data × (Data × List (List ℕ × Filter)))) (coded× data_code (coded× data_code (coded× data_code (coded_list (coded× (coded_list coded_ℕ) filter_code)))))
    (λ c. (c.request, (c.old, (c.new, c.filters)))) (λ p. record { request = p.0; old = p.1.0; new = p.1.1.0; filters = p.1.1.1 }) (λ c. refl)

abbrev pub named_code : Coded Named
named_code = code_by (Data × (Notation × List Shape)) (coded× data_code (coded× notation_code (coded_list shape_code))) (λ n. (n.id, (n.notation, n.shapes))) (λ p. record { id = p.0; notation = p.1.0; shapes = p.1.1 }) (λ n. refl)

abbrev pub first_text_code : Coded FirstText
first_text_code = code_by (Notation × (List Request × List ℕ)) (coded× notation_code (coded× (coded_list request_code) (coded_list coded_ℕ))) (λ f. (f.notation, (f.requests, f.text))) (λ p. record { notation = p.0; requests = p.1.0; text = p.1.1 }) (λ f. refl)

abbrev pub first_texts_code : Coded (List FirstText)
first_texts_code = coded_list first_text_code

abbrev pub told_code : Coded ToldMarks
told_code = code_by (Chains × Sessions) (coded× chains_code sessions_code) (λ t. (t.chains, t.sessions)) (λ p. record { chains = p.0; sessions = p.1 }) (λ t. refl)
