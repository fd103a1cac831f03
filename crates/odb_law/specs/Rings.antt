-- The law of rings: what a hub's rings were sent, whenever its lock is free, and what that says to a client. [P 9.7, 13.1, 15.2]
use Rattle.std.specs.Prelude.{◌≡◌, ℕ, List, map, length, Some, Ok}
use Rattle.odb_atoms.specs.FinMap.{get}
use Rattle.odb_hub.specs.Guarded.{IsGuarded, Guarded, text_of}
use Rattle.odb_hub.specs.Rings.{Ring, texts}
use Rattle.odb_schema.specs.Schema.{Schema}
use Rattle.odb_service.specs.Run.{Event, State, beginning, run}
use Rattle.odb_service.specs.Server.{served_by}
use Rattle.odb_service.specs.Session.{Session}

-- a run of the machine from its beginning that ends in the server's world, and gave the session just the messages whose texts its ring was sent, or holds back
pub record IsRunTo (k : Guarded) (s : ℕ) (r : Ring) (st : State) : Type 0 where
  pub word : ℕ
  pub most : ℕ
  pub events : List Event
  pub is_run : run (served_by k.server.schema) events (beginning word most (length k.server.schema.tables)) ≡ Ok st
  pub world : st.world ≡ k.server.world
  pub texts : map text_of (st.given s) ≡ texts r

-- Of what any hub keeps whenever its lock is free: at every open session, of the messages whose texts its ring was sent.
abbrev pub HoldsOfRings : (Schema → State → ℕ → Session → Type 0) → Type 0
HoldsOfRings P =
    (k : Guarded) → IsGuarded k → (s : ℕ) (x : Session) (r : Ring) → get k.server.world.sessions s ≡ Some x → get k.rings s ≡ Some r
    → (st : State) × IsRunTo k s r st × P k.server.schema st s x
