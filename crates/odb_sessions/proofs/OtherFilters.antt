-- A monitor under other filters, as the machine sees it: what it is told, what its client then has, and when it is renamed.
use Rattle.std.proofs.Common.{◌≡◌, ℕ, List, [], ◌∷◌, map, Option, refl, ap, ◌∙◌}
use Rattle.odb_atoms.specs.Uuid.{Uuid}
use Rattle.odb_chain.specs.Chains.{Chains}
use Rattle.odb_cond.specs.Filter.{Filter}
use Rattle.odb_monitor.specs.View.{query, selected}
use Rattle.odb_request.specs.Request.{Notation, Request}
use Rattle.odb_request.specs.Requests.{are_distinct}
use Rattle.odb_schema.specs.Json.{Data}
use Rattle.odb_service.specs.Service.{Service}
use Rattle.odb_service.specs.Session.{Monitor, brought, changed, filter_of, refilter}
use Rattle.odb_tables.specs.Database.{table_at}
use Rattle.odb_sessions.specs.Composed.{AreTheirs, all_asked_as, asked_of, told_so}
use Rattle.odb_sessions.specs.Marked.{MarkedMonitor, Watched, marks_in, monitor_of, table_marks, view_of, watch_of}
use Rattle.odb_sessions.specs.Moved.{all_now, asked_under, now_of, told_now}
use Rattle.odb_sessions.specs.Started.{AreApart}

abbrev Filters : Type 0
Filters = List (List ℕ × Filter)

abbrev held : Data → Notation → Option Uuid → List Watched → MarkedMonitor
held i n since ws = record { id = i; notation = n; tables = ws; since = since }

-- the tables as they are asked by a change of filters
abbrev pub under : Filters → List Watched → List Watched
under fs ws = all_asked_as ws (refilter fs (asked_of ws))

pub same_asked : (fs : Filters) (ws : List Watched) → asked_of (under fs ws) ≡ refilter fs (asked_of ws)
same_asked fs [] = refl
same_asked fs (w ∷ ws) = ap (λ (qs : List Request). record (w.request) { filter = filter_of fs w.request.shape.name w.request.filter } ∷ qs) (same_asked fs ws)

-- what the client was told stays
pub same_view : (i j : Data) (n : Notation) (since : Option Uuid) (fs : Filters) (ws : List Watched) → view_of (held j n since (under fs ws)) ≡ view_of (held i n since ws)
same_view i j n since fs [] = refl
same_view i j n since fs (w ∷ ws) = ap (λ V. selected (record (w.request) { filter = w.told }) w.mark.content ∷ V) (same_view i j n since fs ws)

-- the client has what the tables are now, under the other filters
abbrev pub told_under_all : Chains → Filters → List Watched → List Watched
told_under_all k fs ws = map (λ (w : Watched). told_now k (filter_of fs w.request.shape.name w.request.filter) w) ws

pub told_asked : (k : Chains) (fs : Filters) (ws : List Watched) → asked_of (told_under_all k fs ws) ≡ asked_of ws
told_asked k fs [] = refl
told_asked k fs (w ∷ ws) = ap (λ (qs : List Request). w.request ∷ qs) (told_asked k fs ws)

told_view : (k : Chains) (i : Data) (n : Notation) (since : Option Uuid) (fs : Filters) (ws : List Watched) → AreTheirs ws → view_of (held i n since (told_under_all k fs ws)) ≡ query k.db (refilter fs (asked_of ws))
told_view k i n since fs [] a = refl
told_view k i n since fs (w ∷ ws) a = λ j. selected (record (w.request) { filter = filter_of fs w.request.shape.name w.request.filter }) (table_at k.db (a.0 j)) ∷ told_view k i n since fs ws a.1 j

pub brought_under : (h : Service) (k : Chains) (i : Data) (n : Notation) (since : Option Uuid) (fs : Filters) (ws : List Watched) → AreTheirs ws
    → told_so i n since (told_under_all k fs ws) ≡ brought h k.db (refilter fs (asked_of ws)) (told_so i n since ws)
brought_under h k i n since fs ws a = λ j. let m : Monitor = record {
  watch = record { id = i; notation = n; requests = told_asked k fs ws j; since = since };
  view = told_view k i n since fs ws a j;
} in m

-- the monitor is renamed, and its filters are the new ones; what the client has stays
pub renamed_seen : (h : Service) (i new : Data) (n : Notation) (since : Option Uuid) (fs : Filters) (ws : List Watched)
    → told_so new n since (under fs ws) ≡ (let m : Monitor = record (told_so i n since ws) { watch = changed h new fs (told_so i n since ws).watch } in m)
renamed_seen h i new n since fs ws = λ j. let m : Monitor = record {
  watch = record { id = new; notation = n; requests = same_asked fs ws j; since = since };
  view = same_view i new n since fs ws j;
} in m

-- ---- a monitor that is brought to now under other filters

pub theirs_under : (k : Chains) (fs : Filters) (ws : List Watched) → AreTheirs ws → AreTheirs (told_under_all k fs ws)
theirs_under k fs [] a = tt
theirs_under k fs (w ∷ ws) a = (a.0, theirs_under k fs ws a.1)

pub monitor_under : (h : Service) (k : Chains) (x y : MarkedMonitor) (fs : Filters) → y.id ≡ x.id → y.notation ≡ x.notation → y.since ≡ x.since → y.tables ≡ told_under_all k fs x.tables → AreTheirs x.tables
    → monitor_of y ≡ brought h k.db (refilter fs (watch_of x).requests) (monitor_of x)
monitor_under h k x y fs id notation since tables theirs = (λ i. told_so (id i) (notation i) (since i) (tables i)) ∙ brought_under h k x.id x.notation x.since fs x.tables theirs

under_marks : (k : Chains) (fs : Filters) (ws : List Watched) → table_marks (told_under_all k fs ws) ≡ all_now k (table_marks ws)
under_marks k fs [] = refl
under_marks k fs (w ∷ ws) = ap (λ ms. now_of k w.mark ∷ ms) (under_marks k fs ws)

pub marks_under : (k : Chains) (x : MarkedMonitor) (ws : List Watched) (fs : Filters) → ws ≡ told_under_all k fs x.tables → table_marks ws ≡ all_now k (marks_in x)
marks_under k x ws fs tables = ap table_marks tables ∙ under_marks k fs x.tables

-- ---- one that is renamed

abbrev all_asked_under : Filters → List Watched → List Watched
all_asked_under fs ws = map (asked_under fs) ws

as_under : (fs : Filters) (ws : List Watched) → all_asked_under fs ws ≡ under fs ws
as_under fs [] = refl
as_under fs (w ∷ ws) = ap (λ (vs : List Watched). asked_under fs w ∷ vs) (as_under fs ws)

pub theirs_asked : (fs : Filters) (ws : List Watched) → AreTheirs ws → AreTheirs (all_asked_under fs ws)
theirs_asked fs [] a = tt
theirs_asked fs (w ∷ ws) a = (a.0, theirs_asked fs ws a.1)

same_names : (fs : Filters) (ws : List Watched) → map (λ (q : Request). q.shape.name) (asked_of (all_asked_under fs ws)) ≡ map (λ (q : Request). q.shape.name) (asked_of ws)
same_names fs [] = refl
same_names fs (w ∷ ws) = ap (λ ns. w.request.shape.name ∷ ns) (same_names fs ws)

pub apart_asked : (fs : Filters) (ws : List Watched) → AreApart (asked_of ws) → AreApart (asked_of (all_asked_under fs ws))
apart_asked fs ws a = ap are_distinct (same_names fs ws) ∙ a

pub monitor_renamed : (h : Service) (x y : MarkedMonitor) (fs : Filters) → y.notation ≡ x.notation → y.since ≡ x.since → y.tables ≡ all_asked_under fs x.tables
    → monitor_of y ≡ (let m : Monitor = record (monitor_of x) { watch = changed h y.id fs (watch_of x) } in m)
monitor_renamed h x y fs notation since tables = (λ i. told_so y.id (notation i) (since i) ((tables ∙ as_under fs x.tables) i)) ∙ renamed_seen h x.id y.id x.notation x.since fs x.tables

pub marks_asked : (fs : Filters) (x : MarkedMonitor) (ws : List Watched) → ws ≡ all_asked_under fs x.tables → table_marks ws ≡ marks_in x
marks_asked fs x ws tables = ap table_marks tables ∙ by x.tables
  where
    by : (vs : List Watched) → table_marks (all_asked_under fs vs) ≡ table_marks vs
    by [] = refl
    by (v ∷ vs) = ap (λ ms. v.mark ∷ ms) (by vs)
