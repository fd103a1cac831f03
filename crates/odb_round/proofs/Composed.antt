-- What is composed from parts is what the machine sends.
use Rattle.std.proofs.Common.{◌≡◌, ℕ, Bool, true, false, cond, not, List, [], ◌∷◌, map, Option, Some, None, refl, sym, ap, ◌∙◌}
use Rattle.serde_json.specs.Written.{compact_text}
use Rattle.std.specs.Prelude.{option_map}
use Rattle.odb_atoms.specs.Uuid.{Uuid}
use Rattle.odb_monitor.specs.Job.{Job, Part, updates_of}
use Rattle.odb_monitor.specs.Update.{table_updates}
use Rattle.odb_monitor.specs.View.{View, delta, is_none, nothing, query, selected, shown}
use Rattle.odb_request.specs.Request.{Notation, Request, update, update2, update_method}
use Rattle.odb_rpc.specs.Message.{notification}
use Rattle.odb_rpc.specs.Since.{update3}
use Rattle.odb_schema.specs.Json.{Data}
use Rattle.odb_service.specs.Service.{Service}
use Rattle.odb_service.specs.Session.{Monitor, Revision, method_of, newest_number, notified, shapes}
use Rattle.odb_sessions.specs.Composed.{asked_of, first_job, first_part, first_updates, later_job, notified_text, part_to}
use Rattle.odb_sessions.specs.Marked.{MarkedMonitor, Watched, view_of, watch_of}
use Rattle.odb_round.specs.Planned.{update_due}
use Rattle.odb_round.specs.Sending.{due_sending, notifying, parts_between, sent_with, update_sending}
use Rattle.odb_tables.specs.Database.{Db, table_at}
use Rattle.odb_sessions.proofs.Loops.{mapped_twice}

pub mapped_same : {A : Type 0} (xs : List A) → map (λ x. x) xs ≡ xs
mapped_same [] = refl
mapped_same (x ∷ xs) = ap (λ ys. x ∷ ys) (mapped_same xs)

-- ---- parts of tables

pub parts_asked : (db : Db) (ws : List Watched) → map (λ (p : Part). p.request) (map (part_to db) ws) ≡ asked_of ws
parts_asked db ws = mapped_twice (λ (p : Part). p.request) (part_to db) ws

pub parts_told : (db : Db) (x : MarkedMonitor) → map (λ (p : Part). p.told) (map (part_to db) x.tables) ≡ view_of x
parts_told db x = mapped_twice (λ (p : Part). p.told) (part_to db) x.tables

pub parts_now : (db : Db) (ws : List Watched) → map (λ (p : Part). p.asked) (map (part_to db) ws) ≡ query db (asked_of ws)
parts_now db ws =
    mapped_twice (λ (p : Part). p.asked) (part_to db) ws
    ∙ sym (mapped_twice (λ (q : Request). selected q (table_at db q.place)) (λ (w : Watched). w.request) ws)

-- ---- updates

same_method : (h : Service) (n : Notation) → method_of h n ≡ update_method n
same_method h update = refl
same_method h update2 = refl

-- the updates of these requests, from one view to another
abbrev updates_between : Notation → List Request → View → View → Option Data
updates_between n qs V W = cond (not (is_none (shown false qs (delta V W)))) (Some (table_updates n false (shapes qs) (shown false qs (delta V W)))) None

-- in a notification to the client of the monitor, where this is the newest commit
abbrev in_notification : Uuid → MarkedMonitor → Data → Data
in_notification number x d = elim x.since [ None ↦ notification (update_method x.notation) (x.id ∷ d ∷ []) | Some v ↦ update3 x.id number d ]

same_notification : (h : Service) (revision : Revision) (x : MarkedMonitor) (d : Data) → notified h revision (watch_of x) d ≡ in_notification (newest_number revision) x d
same_notification h revision x d = by x.since
  where
    named : List ℕ → Option Uuid → Data
    named method o = elim o [ None ↦ notification method (x.id ∷ d ∷ []) | Some v ↦ update3 x.id (newest_number revision) d ]

    by : (o : Option Uuid) → named (method_of h x.notation) o ≡ named (update_method x.notation) o
    by None = ap (λ m. named m None) (same_method h x.notation)
    by (Some v) = refl

-- parts are made of what they have
pub parts_again : (ps : List Part) → parts_between (map (λ (p : Part). p.request) ps) (map (λ (p : Part). p.told) ps) (map (λ (p : Part). p.asked) ps) ≡ ps
parts_again [] = refl
parts_again (p ∷ ps) = ap (λ (qs : List Part). p ∷ qs) (parts_again ps)

abbrev pub monitor_so : MarkedMonitor → View → Monitor
monitor_so x V = record { watch = watch_of x; view = V }

either_way : (h : Service) (revision : Revision) (x : MarkedMonitor) (qs : List Request) (V : View)
    → (let j : Job = later_job x.notation (parts_between qs V (query revision.db qs)) in
    option_map (sent_with (notifying (newest_number revision) x j)) (updates_between x.notation qs V (query revision.db qs)) ≡ update_sending h revision qs (monitor_so x V))
either_way h revision x qs V = by (is_none (shown false qs (delta V (query revision.db qs))))
  where
    j : Job
    j = later_job x.notation (parts_between qs V (query revision.db qs))

    body : Data
    body = table_updates x.notation false (shapes qs) (shown false qs (delta V (query revision.db qs)))

    said : notified_text (newest_number revision) x ≡ (λ (d : Data). compact_text (notified h revision (watch_of x) d))
    said = λ i d. compact_text (sym (same_notification h revision x d) i)

    by : (b : Bool)
        → option_map (sent_with (notifying (newest_number revision) x j)) (cond (not b) (Some body) None)
        ≡ option_map (due_sending h revision) (cond b None (Some (update_due (monitor_so x V) qs)))
    by true = refl
    by false = ap (λ (f : Data → List ℕ). Some (sent_with (record { job = j; text = f }) body)) said

-- what is sent of parts that lead from what the client has to what these requests select
pub parts_sent : (h : Service) (revision : Revision) (x : MarkedMonitor) (qs : List Request) (V : View) (ps : List Part)
    → map (λ (p : Part). p.request) ps ≡ qs → map (λ (p : Part). p.told) ps ≡ V → map (λ (p : Part). p.asked) ps ≡ query revision.db qs
    → option_map (sent_with (notifying (newest_number revision) x (later_job x.notation ps))) (updates_of (later_job x.notation ps)) ≡ update_sending h revision qs (monitor_so x V)
parts_sent h revision x qs V ps asked told now =
    let number : Uuid = newest_number revision in
    let n : Notation = x.notation in
    let same : later_job n ps ≡ later_job n (parts_between qs V (query revision.db qs)) = ap (later_job n) (sym (parts_again ps) ∙ (λ j. parts_between (asked j) (told j) (now j))) in
    (λ j. option_map (sent_with (notifying number x (later_job n ps))) (updates_between n (asked j) (told j) (now j)))
    ∙ ap (λ (k : Job). option_map (sent_with (notifying number x k)) (updates_between n qs V (query revision.db qs))) same
    ∙ either_way h revision x qs V

-- ---- first replies

first_asked : (db : Db) (qs : List Request) → map (λ (p : Part). p.request) (map (first_part db) qs) ≡ qs
first_asked db qs = mapped_twice (λ (p : Part). p.request) (first_part db) qs ∙ mapped_same qs

first_told : (db : Db) (qs : List Request) → map (λ (p : Part). p.told) (map (first_part db) qs) ≡ nothing qs
first_told db qs = mapped_twice (λ (p : Part). p.told) (first_part db) qs

first_now : (db : Db) (qs : List Request) → map (λ (p : Part). p.asked) (map (first_part db) qs) ≡ query db qs
first_now db qs = mapped_twice (λ (p : Part). p.asked) (first_part db) qs

-- something is always sent
pub first_composed : (db : Db) (n : Notation) (qs : List Request) → updates_of (first_job db n qs) ≡ Some (first_updates db n qs)
first_composed db n qs = λ j. Some (table_updates n true (shapes (first_asked db qs j)) (shown true (first_asked db qs j) (delta (first_told db qs j) (first_now db qs j))))
