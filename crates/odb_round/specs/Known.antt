-- What a round stands on, and monitors that are known by the numbers of their sessions. [P 10.1]
use Rattle.std.specs.Prelude.{IfSome, List, Option, Some, slice_get, ℕ, ◌≡◌}
use Rattle.odb_atoms.specs.FinMap.{get}
use Rattle.odb_schema.specs.Schema.{Schema}
use Rattle.odb_sessions.specs.Marked.{MarkedMonitor, MarkedSession, Sessions, monitor_of}
use Rattle.odb_sessions.specs.Watches.{asking_in, asking_of}

-- ---- in a round

-- what a round stands on: the schema, and the sessions
pub record Basis : Type 0 where
  pub schema : Schema
  pub sessions : Sessions

-- the monitor stands at this place in a session that has this number
abbrev pub IsKnownAs : Sessions → Option (ℕ × ℕ) → MarkedMonitor → Type 0
IsKnownAs m w h = IfSome w (λ p. (s : ℕ) × (x : MarkedSession) × (get m s ≡ Some x) × (x.watch ≡ Some p.0) × (slice_get (asking_in x) p.1 ≡ Some (asking_of (monitor_of h))))

-- these are the monitors of a session that has this number
abbrev pub AreKnownAs : Sessions → Option ℕ → List MarkedMonitor → Type 0
AreKnownAs m w hs = IfSome w (λ n. (s : ℕ) × (x : MarkedSession) × (get m s ≡ Some x) × (x.watch ≡ Some n) × (x.monitors ≡ hs))
