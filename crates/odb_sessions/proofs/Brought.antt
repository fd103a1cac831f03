-- What a client has once it was brought to now, and a list whose elements are changed from the front on.
use Rattle.std.proofs.Common.{◌≡◌, ℕ, zero, suc, ◌+◌, ◌<◌, ◌≤◌, arith, List, [], ◌∷◌, get_or, length, map, slice_get, slice_set, unwrap_or, Option, refl, ap, ◌∙◌}
use Rattle.odb_atoms.specs.Uuid.{Uuid}
use Rattle.odb_chain.specs.Chains.{Chains, Mark, mark_of}
use Rattle.odb_monitor.specs.View.{query, selected}
use Rattle.odb_request.specs.Request.{Notation}
use Rattle.odb_schema.specs.Json.{Data}
use Rattle.odb_service.specs.Service.{Service}
use Rattle.odb_service.specs.Session.{brought}
use Rattle.odb_tables.specs.Database.{table_at}
use Rattle.odb_sessions.specs.Composed.{AreTheirs, asked_of, told_so}
use Rattle.odb_sessions.specs.Marked.{MarkedMonitor, Watched, table_marks, view_of}
use Rattle.odb_sessions.specs.Moved.{all_now, brought_to, told_now}
use Rattle.odb_cond.specs.Filter.{Filter}
use Rattle.odb_sessions.proofs.Loops.{mapped_twice}

-- ---- from a place on

abbrev pub from_place : {X : Type 0} → (X → X) → ℕ → List X → List X
from_place f zero xs = map f xs
from_place f (suc i) [] = []
from_place f (suc i) (x ∷ xs) = x ∷ from_place f i xs

pub one_more : {X : Type 0} (f : X → X) (xs : List X) (i : ℕ) (d y : X) → i < length xs → y ≡ f (get_or xs i d) → from_place f (i + 1) (slice_set xs i y) ≡ from_place f i xs
one_more f [] i d y low is = absurd (omega (arith, low))
one_more f (x ∷ xs) zero d y low is = ap (λ z. z ∷ map f xs) is
one_more f (x ∷ xs) (suc i) d y low is =
    let next : suc i + 1 ≡ suc (i + 1) = omega arith in
    ap (λ n. from_place f n (x ∷ slice_set xs i y)) next ∙ ap (λ ys. x ∷ ys) (one_more f xs i d y (omega (arith, low)) is)

pub all_done : {X : Type 0} (f : X → X) (xs : List X) (i : ℕ) → length xs ≤ i → from_place f i xs ≡ xs
all_done f [] zero long = refl
all_done f [] (suc i) long = refl
all_done f (x ∷ xs) zero long = absurd (omega (arith, long))
all_done f (x ∷ xs) (suc i) long = ap (λ ys. x ∷ ys) (all_done f xs i (omega (arith, long)))

-- ---- what was brought

pub brought_same : (a b : Chains) (w : Watched) → b.db ≡ a.db → b.versions ≡ a.versions → brought_to b w ≡ brought_to a w
brought_same a b w db versions = λ i. record {
  request = w.request;
  told = w.request.filter;
  mark = (let m : Mark = record { table = w.mark.table; version = unwrap_or (slice_get (versions i) w.mark.table) 0; content = table_at (db i) w.mark.table } in m);
}

pub brought_marks : (k : Chains) (ws : List Watched) → table_marks (map (brought_to k) ws) ≡ all_now k (table_marks ws)
brought_marks k [] = refl
brought_marks k (w ∷ ws) = ap (λ ms. mark_of k w.mark.table ∷ ms) (brought_marks k ws)

abbrev held : Data → Notation → Option Uuid → List Watched → MarkedMonitor
held i n since ws = record { id = i; notation = n; tables = ws; since = since }

pub brought_asked : (k : Chains) (ws : List Watched) → asked_of (map (brought_to k) ws) ≡ asked_of ws
brought_asked k ws = mapped_twice (λ (w : Watched). w.request) (brought_to k) ws

brought_view : (k : Chains) (i : Data) (n : Notation) (since : Option Uuid) (ws : List Watched) → AreTheirs ws → view_of (held i n since (map (brought_to k) ws)) ≡ query k.db (asked_of ws)
brought_view k i n since [] a = refl
brought_view k i n since (w ∷ ws) a = λ j. selected w.request (table_at k.db (a.0 j)) ∷ brought_view k i n since ws a.1 j

-- the machine sees a monitor that is brought to now
pub brought_seen : (h : Service) (k : Chains) (i : Data) (n : Notation) (since : Option Uuid) (ws : List Watched) → AreTheirs ws
    → told_so i n since (map (brought_to k) ws) ≡ brought h k.db (asked_of ws) (told_so i n since ws)
brought_seen h k i n since ws a = λ j. record {
  watch = record { id = i; notation = n; requests = brought_asked k ws j; since = since };
  view = brought_view k i n since ws a j;
}

-- ---- under filters, table by table

pub told_same : (a b : Chains) (f : Filter) (w : Watched) → b.db ≡ a.db → b.versions ≡ a.versions → told_now b f w ≡ told_now a f w
told_same a b f w db versions = λ i. record {
  request = w.request;
  told = f;
  mark = (let m : Mark = record { table = w.mark.table; version = unwrap_or (slice_get (versions i) w.mark.table) 0; content = table_at (db i) w.mark.table } in m);
}
