-- Marks of the tables that are asked for: what a client has of each is known.
use Rattle.std.proofs.Common.{◌≡◌, ℕ, zero, suc, ◌<◌, arith, List, [], ◌∷◌, ◌++◌, get_or, length, map, refl, ap, ◌∙◌}
use Rattle.odb_chain.specs.Chains.{Chains}
use Rattle.odb_service.specs.Service.{Service}
use Rattle.odb_service.specs.Session.{brought, refilter}
use Rattle.odb_sessions.specs.Composed.{AreTheirs, IsKnown, asked_of, told_so}
use Rattle.odb_sessions.specs.Filtered.{Filters}
use Rattle.odb_sessions.specs.Marked.{MarkedMonitor, Watched, marks_in, monitor_of, table_marks, watch_of}
use Rattle.odb_sessions.specs.Moved.{all_now, brought_to}
use Rattle.odb_sessions.specs.Tied.{AreLive}
use Rattle.odb_sessions.proofs.Brought.{brought_marks, brought_seen}
use Rattle.odb_sessions.proofs.OtherFilters.{under}

pub theirs_joined : (ws : List Watched) (w : Watched) → AreTheirs ws → w.mark.table ≡ w.request.place → AreTheirs (ws ++ w ∷ [])
theirs_joined [] w a own = (own, tt)
theirs_joined (x ∷ ws) w a own = (a.0, theirs_joined ws w a.1 own)

pub theirs_brought : (k : Chains) (ws : List Watched) → AreTheirs ws → AreTheirs (map (brought_to k) ws)
theirs_brought k [] a = tt
theirs_brought k (w ∷ ws) a = (a.0, theirs_brought k ws a.1)

pub known_all : (k : Chains) (ws : List Watched) → AreLive k (table_marks ws) → AreTheirs ws → (i : ℕ) (d : Watched) → i < length ws → IsKnown k (get_or ws i d)
known_all k [] live theirs i d low = absurd (omega (arith, low))
known_all k (w ∷ ws) live theirs zero d low = (live.0, theirs.0)
known_all k (w ∷ ws) live theirs (suc i) d low = known_all k ws live.1 theirs.1 i d (omega (arith, low))

pub known_under : (k : Chains) (fs : Filters) (ws : List Watched) → AreLive k (table_marks ws) → AreTheirs ws → (i : ℕ) (d : Watched) → i < length (under fs ws) → IsKnown k (get_or (under fs ws) i d)
known_under k fs [] live theirs i d low = absurd (omega (arith, low))
known_under k fs (w ∷ ws) live theirs zero d low = (live.0, theirs.0)
known_under k fs (w ∷ ws) live theirs (suc i) d low = known_under k fs ws live.1 theirs.1 i d (omega (arith, low))

pub as_many : (fs : Filters) (ws : List Watched) → length (refilter fs (asked_of ws)) ≡ length ws
as_many fs [] = refl
as_many fs (w ∷ ws) = ap suc (as_many fs ws)

-- a monitor that is brought to now, as the machine sees it
pub monitor_brought : (h : Service) (k : Chains) (x y : MarkedMonitor) → y.id ≡ x.id → y.notation ≡ x.notation → y.since ≡ x.since → y.tables ≡ map (brought_to k) x.tables → AreTheirs x.tables
    → monitor_of y ≡ brought h k.db (watch_of x).requests (monitor_of x)
monitor_brought h k x y id notation since tables theirs = (λ i. told_so (id i) (notation i) (since i) (tables i)) ∙ brought_seen h k x.id x.notation x.since x.tables theirs

pub marks_brought : (k : Chains) (x : MarkedMonitor) (ws : List Watched) → ws ≡ map (brought_to k) x.tables → table_marks ws ≡ all_now k (marks_in x)
marks_brought k x ws tables = ap table_marks tables ∙ brought_marks k x.tables
