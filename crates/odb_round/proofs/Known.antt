-- Monitors that are known by the numbers of their sessions.
use Rattle.std.proofs.Common.{List, None, Option, Some, [], ap, arith, get_or, length, map, refl, suc, zero, ℕ, ◌<◌, ◌∙◌, ◌∷◌, ◌≡◌}
use Rattle.std.specs.Prelude.{slice_get}
use Rattle.odb_atoms.specs.FinMap.{get}
use Rattle.odb_round.specs.Known.{AreKnownAs, IsKnownAs}
use Rattle.odb_sessions.specs.Marked.{MarkedMonitor, MarkedSession, Sessions, monitor_of}
use Rattle.odb_sessions.specs.Watches.{asking_of}

-- ---- monitors by their places

place_of_known : (hs : List MarkedMonitor) (k : ℕ) (d : MarkedMonitor) → k < length hs → slice_get (map asking_of (map monitor_of hs)) k ≡ Some (asking_of (monitor_of (get_or hs k d)))
place_of_known [] k d low = absurd (omega (arith, low))
place_of_known (x ∷ xs) zero d low = refl
place_of_known (x ∷ xs) (suc k) d low = place_of_known xs k d (omega (arith, low))

pub known_at : (m : Sessions) (n k : ℕ) (hs : List MarkedMonitor) (d : MarkedMonitor) → k < length hs → AreKnownAs m (Some n) hs → IsKnownAs m (Some (n, k)) (get_or hs k d)
known_at m n k hs d low h = (h.0, h.1, h.2, h.3, ap (λ (xs : List MarkedMonitor). slice_get (map asking_of (map monitor_of xs)) k) h.4 ∙ place_of_known hs k d low)

-- the monitors of a session by its number, if it has one
pub known_session : (m : Sessions) (s : ℕ) (x : MarkedSession) → get m s ≡ Some x → AreKnownAs m x.watch x.monitors
known_session m s x there = by x.watch refl
  where
    by : (w : Option ℕ) → x.watch ≡ w → AreKnownAs m w x.monitors
    by None is = tt
    by (Some n) is = (s, x, there, is, refl)
