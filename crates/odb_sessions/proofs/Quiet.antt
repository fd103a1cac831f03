-- A client that has what its tables are now is owed nothing.
use Rattle.std.proofs.Common.{◌≡◌, arith, List, [], ◌∷◌, length, Option, Some, None, refl, sym, ap, ◌∙◌}
use Rattle.std.specs.List.{cons_option}
use Rattle.odb_chain.specs.Chains.{Mark}
use Rattle.odb_cond.specs.Filter.{Filter}
use Rattle.odb_monitor.specs.View.{query, selected}
use Rattle.odb_request.specs.Request.{Request}
use Rattle.odb_service.specs.Service.{Service}
use Rattle.odb_service.specs.Session.{Monitor, Out, Revision, brought, update_to}
use Rattle.odb_service.proofs.WhatIsOwed.{all_owe_nothing}
use Rattle.odb_sessions.specs.Composed.{AreNow}
use Rattle.odb_sessions.specs.Marked.{MarkedMonitor, Watched, monitor_of, view_of, watch_of}
use Rattle.odb_sessions.specs.Represented.Told.{told_under}
use Rattle.odb_sessions.proofs.Loops.{mapped_twice}
use Rattle.odb_tables.specs.Database.{Db, table_at}

-- a mark of now, under the filter that is asked
pub now_same : (db : Db) (q : Request) (t : Option Filter) (m : Mark) → t ≡ None → m.table ≡ q.place → m.content ≡ table_at db m.table
    → selected (record q { filter = told_under q t }) m.content ≡ selected q (table_at db q.place)
now_same db q t m none table content = λ j. selected (record q { filter = told_under q (none j) }) ((content ∙ ap (table_at db) table) j)

view_now : (db : Db) (x : MarkedMonitor) → AreNow db x.tables → view_of x ≡ query db (watch_of x).requests
view_now db x same = same ∙ sym (mapped_twice (λ (q : Request). selected q (table_at db q.place)) (λ (w : Watched). w.request) x.tables)

no_more : (o : Option Out) → cons_option o [] ≡ [] → o ≡ None
no_more None e = refl
no_more (Some x) e = let long : length (x ∷ []) ≡ 0 = ap length e in absurd (omega (arith, long))

-- such a client is brought to what it has, and is sent nothing
pub brought_same : (h : Service) (db : Db) (x : MarkedMonitor) → AreNow db x.tables → monitor_of x ≡ brought h db (watch_of x).requests (monitor_of x)
brought_same h db x same = (λ i. let n : Monitor = record { watch = watch_of x; view = view_now db x same i } in n)

pub nothing_sent : (h : Service) (revision : Revision) (x : MarkedMonitor) → AreNow revision.db x.tables → update_to h revision (watch_of x).requests (monitor_of x) ≡ None
nothing_sent h revision x same =
    let m : Monitor = monitor_of x in
    let qs : List Request = (watch_of x).requests in
    ap (λ (n : Monitor). update_to h revision qs n) (brought_same h revision.db x same) ∙ no_more (update_to h revision qs (brought h revision.db qs m)) (all_owe_nothing h revision (m ∷ []))
