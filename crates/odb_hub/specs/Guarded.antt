-- What the lock guards: the server, the base state and the events since it, and the rings of its sessions.
use Rattle.std.specs.Prelude.{◌≡◌, ℕ, ◌-◌, ◌^◌, ◌≤◌, ◌==◌, Bool, length, min, List, [], ◌∷◌, ◌++◌, map, Some, None, is_some, Ok, refl}
use Rattle.std.specs.Coded.{Coded, code_by, coded×}
use Rattle.serde_json.specs.Written.{compact_text}
use Rattle.odb_atoms.specs.FinMap.{get}
use Rattle.odb_service.specs.History.{IsHistory}
use Rattle.odb_service.specs.Run.{Event}
use Rattle.odb_service.specs.Server.{Server, serve, served_by, server_code}
use Rattle.odb_service.specs.Session.{Out, Session, take}
use Rattle.odb_service.specs.World.{World, revision_of}
use Rattle.odb_service.specs.WorldCode.{world_code}
use Rattle.odb_core.specs.Represented.Core.{new_server}
use Rattle.odb_hub.specs.EventCode.{events_code}
use Rattle.odb_hub.specs.Rings.{Ring, Rings, Text, rings_code, texts}
use Rattle.std.specs.List.{list_any}
use Rattle.std.specs.List.Sorted.{IsStrictlySortedBy}
use Rattle.std.specs.Ordering.{nat_cmp}

pub record Guarded : Type 0 where
  pub server : Server
  pub base : World
  pub events : List Event
  pub rings : Rings

abbrev pub guarded_code : Coded Guarded
guarded_code = code_by (Server × (World × (List Event × Rings))) (coded× server_code (coded× world_code (coded× events_code rings_code))) (λ k. (k.server, (k.base, (k.events, k.rings)))) (λ p. record { server = p.0; base = p.1.0; events = p.1.1.0; rings = p.1.1.1 }) (λ _. refl)

-- the server takes the event and sends this; the journal grows by the event, and the base stays
abbrev pub Takes : Event → Guarded → Guarded → List (ℕ × Text) → Type 0
Takes e old new outs = (serve e old.server ≡ Ok (new.server, outs)) × (new.events ≡ old.events ++ e ∷ []) × (new.base ≡ old.base)

abbrev pub EndsWith : List Text → List Text → Type 0
EndsWith whole end = (front : List Text) × (whole ≡ front ++ end)

abbrev pub text_of : Out → Text
text_of o = compact_text o.message

-- the rings were sent, last, what the history gives their sessions, in order, each once
abbrev pub AreTold : Rings → (ℕ → List Out) → Type 0
AreTold rings given = (s : ℕ) (r : Ring) → get rings s ≡ Some r → EndsWith (texts r) (map text_of (given s))

-- the open sessions are those that have a ring
abbrev pub AreOpen : Rings → World → Type 0
AreOpen rings w = (s : ℕ) → is_some (get rings s) ≡ is_some (get w.sessions s)

-- empty tables, no commit and no session, in some run
abbrev pub IsNew : Server → Type 0
IsNew v = (word : ℕ) × (most : ℕ) × (v ≡ new_server word most v.schema)

-- the rings were sent just what the history gives their sessions, in order, each once
abbrev pub AreSent : Rings → (ℕ → List Out) → Type 0
AreSent rings given = (s : ℕ) (r : Ring) → get rings s ≡ Some r → texts r ≡ map text_of (given s)

-- Some events lead from a new server of the schema to the server's state; and each ring was sent, since its session was opened, just what they give that.
abbrev pub IsWhole : Guarded → Type 0
IsWhole k = (word : ℕ) × (most : ℕ) × (events : List Event) × (given : ℕ → List Out) × IsHistory (served_by k.server.schema) ((new_server word most k.server.schema).world) events k.server.world given × AreSent k.rings given

-- base and events are a legal history that ends in the server's state, and the rings end with what it gives; and since the server was new the rings were sent just what its history gives
abbrev pub IsGuarded : Guarded → Type 0
IsGuarded k = ((given : ℕ → List Out) × IsHistory (served_by k.server.schema) k.base k.events k.server.world given × AreTold k.rings given) × AreOpen k.rings k.server.world × IsWhole k

-- a taking of an open session gives nothing and changes nothing
abbrev pub IsQuiet : Server → Type 0
IsQuiet s = (q : ℕ) (x : Session) → get s.world.sessions q ≡ Some x → take (served_by s.schema) (revision_of s.world) x ≡ (None, x)

-- no session has a ring under a number that is still to be given
abbrev pub AreUnused : Rings → ℕ → Type 0
AreUnused rings opened = (q : ℕ) → opened ≤ q → get rings q ≡ None

-- in ascending order
abbrev pub Rising : List ℕ → Type 0
Rising ss = IsStrictlySortedBy nat_cmp ss

-- how many, as far as 64 bits count
abbrev pub counted : List Event → ℕ
counted es = min (length es) (2 ^ 64 - 1)

abbrev pub is_in : ℕ → List ℕ → Bool
is_in s ss = list_any (λ t. t == s) ss
