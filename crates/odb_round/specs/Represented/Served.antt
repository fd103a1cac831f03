-- At which place the likeness of what is sent stands, and that it has the marks of a monitor.
use Rattle.std.specs.Prelude.{◌≡◌, ℕ, IfSome, List, slice_get, Option, Some, None, option_map}
use Rattle.odb_sessions.specs.Alike.{Likeness}
use Rattle.odb_sessions.specs.Marked.{MarkedMonitor}
use Rattle.odb_round.specs.Jobs.{Keeps}
use Rattle.odb_round.specs.ByMarks.{IsByMarks}
use Rattle.odb_sessions.specs.declared.composing.Envelope.{Envelope}
use Rattle.odb_round.specs.declared.taking.Coming.{Coming}
use Rattle.odb_round.specs.declared.taking.Coming.TheVariants.{Composed, Queued}

-- all likenesses stay where they are, and the one at this place, if there is one, has the marks of a monitor of which this is so
abbrev pub IsServed : List Likeness → List Likeness → (MarkedMonitor → Type 0) → Option ℕ → Type 0
IsServed old new P place = Keeps old new × IfSome place (λ n. (l : Likeness) × (h : MarkedMonitor) × (slice_get new n ≡ Some l) × P h × IsByMarks l h)

-- the likeness stands at this place, if there is one
abbrev pub IsAtPlace : List Likeness → Likeness → Option ℕ → Type 0
IsAtPlace ls l place = IfSome place (λ n. slice_get ls n ≡ Some l)

abbrev pub place_told : Option Envelope → Option ℕ
place_told m = option_map (λ e. e.place) m

abbrev pub place_coming : Option Coming → Option ℕ
place_coming None = None
place_coming (Some Queued) = None
place_coming (Some (Composed m)) = Some m.place
