-- Replies: where one stands among those that are owed, and what a client has when it comes. [P 9.5, 9.6, 10.4]
use Rattle.std.specs.Prelude.{◌≡◌, Bool, true, false, ℕ, List, [], ◌∷◌, ◌++◌, Some, Ok}
use Rattle.serde_json.specs.Data.{Data}
use Rattle.odb_rpc.specs.Message as message
use Rattle.odb_atoms.specs.FinMap.{get}
use Rattle.odb_atoms.specs.Uuid.{Uuid}
use Rattle.odb_law.specs.Client.{Picture, changes, drops, wish_of}
use Rattle.odb_law.specs.Headline.{IsNow, IsReached, is_granted, pictured}
use Rattle.odb_rpc.specs.Message.{Call, call_of}
use Rattle.odb_service.specs.Run.{Event, State, next, opens, submitted}
use Rattle.odb_service.specs.Service.{Service}
use Rattle.odb_service.specs.Session.{Answers, Out, Session, no_request, owed, to}
use Rattle.odb_tables.specs.Database.{Db}
use Rattle.odb_service.specs.World.{revision_of}

-- no message of these is a reply
abbrev pub AreNotices : List Out → Type 0
AreNotices [] = Unit {0}
AreNotices (o ∷ os) = (o.answers ≡ no_request) × AreNotices os

abbrev pub with_request : Answers → List Data → List Data
with_request no_request ds = ds
with_request (to d) ds = d ∷ ds

-- the requests that messages answer, in order
abbrev pub answered_in : List Out → List Data
answered_in [] = []
answered_in (o ∷ os) = with_request o.answers (answered_in os)

-- requests that never wait
abbrev pub is_replied_at_once : Call → Bool
is_replied_at_once (message.answered text) = true
is_replied_at_once (message.transact id operations) = false
is_replied_at_once (message.monitor id n i requests since) = true
is_replied_at_once (message.change_filters id old new filters) = true
is_replied_at_once (message.cancel_monitor id i) = true
is_replied_at_once (message.lock id name) = true
is_replied_at_once (message.steal id name) = true
is_replied_at_once (message.unlock id name) = true
is_replied_at_once (message.cancel id) = false
is_replied_at_once message.passed_over = false

module _ (h : Service) where
  -- after these messages a client has of the monitor just what its filters select now
  abbrev pub HasNow : Db → Data → List Out → Type 0
  HasNow db i os = (p : Picture) × (pictured h i os ≡ Some p) × IsNow h db p.requests p.view

  -- The reply to a request is the last that its session is owed. Where it cancels a monitor, a client that takes what comes before has of that monitor just what its filters select now; where it changes filters, a client that takes it too has just what the new ones select.
  pub record IsRepliedTo (d : Data) (st : State) (s : ℕ) (x : Session) : Type 0 where
    pub before : List Out
    pub reply : Out
    pub after : List Out
    pub is_owed : owed h (revision_of st.world) x ≡ before ++ reply ∷ after
    pub answers : reply.answers ≡ to d
    pub is_last : AreNotices after
    pub dropped : (i : Data) → is_granted reply.message ≡ true → wish_of d ≡ drops i → HasNow st.world.db i (st.given s ++ before)
    pub changed : (old new filters : Data) → is_granted reply.message ≡ true → wish_of d ≡ changes old new filters → HasNow st.world.db new (st.given s ++ before ++ reply ∷ [])

  -- So it is right after each request that never waits.
  abbrev pub RepliesAtOnce : Type 0
  RepliesAtOnce =
      (st now : State) → IsReached h st → (s : ℕ) (d : Data) (fresh : List Uuid) (moment : ℕ) → next h (submitted s d fresh moment) st ≡ Ok now → is_replied_at_once (call_of h.db_name h.schema h.serves d) ≡ true
      → (y : Session) → get now.world.sessions s ≡ Some y → IsRepliedTo d now s y

  -- Of the replies that a session was given and is owed, an event takes none away and leaves their order; those that it adds come after all others.
  abbrev pub KeepsOrder : Type 0
  KeepsOrder =
      (st now : State) (e : Event) → next h e st ≡ Ok now → (s : ℕ) (x y : Session) → opens e s ≡ false → get st.world.sessions s ≡ Some x → get now.world.sessions s ≡ Some y
      → (more : List Data) × (answered_in (now.given s ++ owed h (revision_of now.world) y) ≡ answered_in (st.given s ++ owed h (revision_of st.world) x) ++ more)
