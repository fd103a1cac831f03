-- What is composed for a monitor is what the machine sends, whatever was foreseen of it and under whichever filters.
use Rattle.std.proofs.Common.{◌≡◌, List, [], ◌∷◌, map, Some, refl, ap, ◌∙◌}
use Rattle.std.specs.Prelude.{option_map}
use Rattle.odb_monitor.specs.Job.{Job, Part, updates_of}
use Rattle.odb_monitor.specs.View.{query, selected}
use Rattle.odb_request.specs.Request.{Request}
use Rattle.odb_service.specs.Service.{Service}
use Rattle.odb_service.specs.Session.{Revision, newest_number, refilter}
use Rattle.odb_sessions.specs.Composed.{asked_of, later_job, owed_job, part_to}
use Rattle.odb_round.specs.Foreseen.{Ahead, seen_ahead}
use Rattle.odb_sessions.specs.Filtered.{Filters, all_parts_again, asked_under}
use Rattle.odb_sessions.specs.Marked.{MarkedMonitor, Watched, monitor_of, view_of, watch_of}
use Rattle.odb_round.specs.Sending.{notifying, sent_with, update_sending}
use Rattle.odb_round.proofs.Composed.{parts_asked, parts_now, parts_sent, parts_told}
use Rattle.odb_sessions.proofs.OtherFilters.{same_asked, same_view, under}
use Rattle.odb_tables.specs.Database.{Db, table_at}

pub refilter_none : (qs : List Request) → refilter [] qs ≡ qs
refilter_none [] = refl
refilter_none (q ∷ qs) = ap (λ (rs : List Request). q ∷ rs) (refilter_none qs)

-- ---- nothing was foreseen

pub sent_asked : (h : Service) (revision : Revision) (x : MarkedMonitor)
    → option_map (sent_with (notifying (newest_number revision) x (owed_job revision.db x))) (updates_of (owed_job revision.db x)) ≡ update_sending h revision (watch_of x).requests (monitor_of x)
sent_asked h revision x =
    parts_sent h revision x (asked_of x.tables) (view_of x) (map (part_to revision.db) x.tables)
    (parts_asked revision.db x.tables) (parts_told revision.db x) (parts_now revision.db x.tables)

pub sent_under : (h : Service) (revision : Revision) (fs : Filters) (x : MarkedMonitor)
    → (let j : Job = later_job x.notation (map (part_to revision.db) (under fs x.tables)) in option_map (sent_with (notifying (newest_number revision) x j)) (updates_of j) ≡ update_sending h revision (refilter fs (watch_of x).requests) (monitor_of x))
sent_under h revision fs x =
    let vs : List Watched = under fs x.tables in
    parts_sent h revision x (refilter fs (asked_of x.tables)) (view_of x) (map (part_to revision.db) vs)
    (parts_asked revision.db vs ∙ same_asked fs x.tables) (parts_told revision.db (record x { tables = vs }) ∙ same_view x.id x.id x.notation x.since fs x.tables) (parts_now revision.db vs ∙ ap (query revision.db) (same_asked fs x.tables))

-- ---- the client was told of its tables as they are now

again_asked : (db : Db) (gs fs : Filters) (ws : List Watched) → map (λ (p : Part). p.request) (all_parts_again db gs ws (refilter fs (asked_of ws))) ≡ refilter fs (asked_of ws)
again_asked db gs fs [] = refl
again_asked db gs fs (w ∷ ws) = ap (λ (qs : List Request). asked_under fs w.request ∷ qs) (again_asked db gs fs ws)

again_told : (db : Db) (gs fs : Filters) (ws : List Watched) → map (λ (p : Part). p.told) (all_parts_again db gs ws (refilter fs (asked_of ws))) ≡ query db (refilter gs (asked_of ws))
again_told db gs fs [] = refl
again_told db gs fs (w ∷ ws) = ap (λ V. selected (asked_under gs w.request) (table_at db w.request.place) ∷ V) (again_told db gs fs ws)

again_now : (db : Db) (gs fs : Filters) (ws : List Watched) → map (λ (p : Part). p.asked) (all_parts_again db gs ws (refilter fs (asked_of ws))) ≡ query db (refilter fs (asked_of ws))
again_now db gs fs [] = refl
again_now db gs fs (w ∷ ws) = ap (λ V. selected (asked_under fs w.request) (table_at db w.request.place) ∷ V) (again_now db gs fs ws)

abbrev pub told_as : MarkedMonitor → Filters → Ahead
told_as x gs = record { marked = x; told = Some gs }

pub sent_again : (h : Service) (revision : Revision) (gs fs : Filters) (x : MarkedMonitor)
    → (let j : Job = later_job x.notation (all_parts_again revision.db gs x.tables (refilter fs (asked_of x.tables))) in option_map (sent_with (notifying (newest_number revision) x j)) (updates_of j) ≡ update_sending h revision (refilter fs (watch_of x).requests) (seen_ahead revision.db (told_as x gs)))
sent_again h revision gs fs x =
    parts_sent h revision x (refilter fs (asked_of x.tables)) (query revision.db (refilter gs (asked_of x.tables))) (all_parts_again revision.db gs x.tables (refilter fs (asked_of x.tables)))
    (again_asked revision.db gs fs x.tables) (again_told revision.db gs fs x.tables) (again_now revision.db gs fs x.tables)
