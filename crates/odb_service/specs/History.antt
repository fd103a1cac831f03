-- Legal histories: events that the service can take from a base state, with what they give each session and the state in which they end. [P 13.1]
use Rattle.std.specs.Prelude.{◌≡◌, ℕ, List, [], Ok}
use Rattle.serde_json.specs.Data.{Data}
use Rattle.odb_service.specs.Run.{Event, run}
use Rattle.odb_service.specs.Service.{Service}
use Rattle.odb_service.specs.Session.{Out}
use Rattle.odb_service.specs.World.{World}

module _ (h : Service) where
  -- `given` is what each session was given since the last open of its identifier in the list, or since the base
  abbrev pub IsHistory : World → List Event → World → (ℕ → List Out) → Type 0
  IsHistory base events last given =
      (requests : ℕ → List Data) × (run h events (record { world = base; given = λ s. []; requests = λ s. [] }) ≡ Ok (record { world = last; given = given; requests = requests }))
