-- What sessions ask, under numbers: those that have one number ask the same. [P 10.1]
use Rattle.std.specs.Prelude.{◌≡◌, ℕ, List, map, Option, Some, None}
use Rattle.odb_atoms.specs.FinMap.{get}
use Rattle.odb_request.specs.Request.{Notation, Request}
use Rattle.odb_service.specs.Session.{Item, Monitor, renamed, say, shift, start, stopped, sync}
use Rattle.odb_sessions.specs.Marked.{MarkedSession, Sessions, seen}

-- in which notation a monitor asks, and of which tables
abbrev pub asking_of : Monitor → Notation × List Request
asking_of m = (m.watch.notation, m.watch.requests)

-- what its monitors ask
abbrev pub asking_in : MarkedSession → List (Notation × List Request)
asking_in x = map asking_of (seen x).monitors

-- those that have one number ask the same
abbrev pub AreAlike : Sessions → Type 0
AreAlike m = (s t n : ℕ) (x y : MarkedSession) → get m s ≡ Some x → get m t ≡ Some y → x.watch ≡ Some n → y.watch ≡ Some n → asking_in x ≡ asking_in y

-- whoever of these has its number asks what it does
abbrev pub Joins : Sessions → MarkedSession → Type 0
Joins m x = (n t : ℕ) (y : MarkedSession) → x.watch ≡ Some n → get m t ≡ Some y → y.watch ≡ Some n → asking_in y ≡ asking_in x

-- where it has a number it had that before, and asks what it did
abbrev pub KeepsWatch : MarkedSession → MarkedSession → Type 0
KeepsWatch x y = (n : ℕ) → y.watch ≡ Some n → (x.watch ≡ Some n) × (asking_in y ≡ asking_in x)

-- with this number
abbrev pub with_watch : ℕ → MarkedSession → MarkedSession
with_watch n x = record x { watch = Some n }

-- whoever has the number asks what this session does
abbrev pub IsWatchFor : Sessions → ℕ → ℕ → Type 0
IsWatchFor m s n = (x : MarkedSession) → get m s ≡ Some x → Joins m (with_watch n x)

-- the number after an item that is carried out: none, where it may change what is asked
abbrev pub watch_after : Item → Option ℕ → Option ℕ
watch_after (say a d) w = w
watch_after (start d k) w = None
watch_after (sync i) w = w
watch_after (shift i fs) w = w
watch_after (renamed d old new fs) w = None
watch_after (stopped d i) w = None
