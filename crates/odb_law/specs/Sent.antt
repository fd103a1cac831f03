-- The law of what was sent: a server's events as it took them, with the texts that it sent, and what these say to a client. That each call of a server is such a step is that call's own contract. [P 9.7, 13.1]
use Rattle.std.specs.Prelude.{◌≡◌, ◌==◌, if◌then◌else◌, true, ℕ, List, [], ◌∷◌, ◌++◌, map, length, Some, Ok}
use Rattle.serde_json.specs.Data.{Data}
use Rattle.serde_json.specs.Written.{compact_text}
use Rattle.odb_atoms.specs.FinMap.{get}
use Rattle.odb_atoms.specs.Uuid.{Uuid}
use Rattle.odb_law.specs.Headline.{HasTurn, IsWhole, about}
use Rattle.odb_law.specs.Replies.{IsRepliedTo, is_replied_at_once}
use Rattle.odb_rpc.specs.Message.{call_of}
use Rattle.odb_schema.specs.Schema.{Schema}
use Rattle.odb_service.specs.Run.{Event, State, beginning, opens, run, submitted}
use Rattle.odb_service.specs.Server.{Server, serve, served_by}
use Rattle.odb_service.specs.Service.{Service}
use Rattle.odb_service.specs.Session.{Out, Session}

abbrev pub Text : Type 0
Text = List ℕ

-- an event that a server took, the server after it, and the texts that it sent, in order, each to its session
pub record Taken : Type 0 where
  pub event : Event
  pub server : Server
  pub sent : List (ℕ × Text)

abbrev pub text_of : Out → Text
text_of o = compact_text o.message

-- what was sent to a session, in order
abbrev pub texts_to : ℕ → List (ℕ × Text) → List Text
texts_to s [] = []
texts_to s (o ∷ os) = if o.0 == s then o.1 ∷ texts_to s os else texts_to s os

-- ---- lists of what was taken, the newest first

-- the events, the oldest first
abbrev pub events : List Taken → List Event
events [] = []
events (t ∷ ts) = events ts ++ t.event ∷ []

-- what a session was sent since it was opened, in order
abbrev pub texts_since : List Taken → ℕ → List Text
texts_since [] s = []
texts_since (t ∷ ts) s = if opens t.event s then [] else texts_since ts s ++ texts_to s t.sent

-- a server of the schema with empty tables and no session, in a run with this word, of which so many contents can be found
abbrev pub first_server : Schema → (word most : ℕ) → Server
first_server schema word most = record { schema = schema; world = (beginning word most (length schema.tables)).world; opened = 0 }

module _ (schema : Schema) (word most : ℕ) where
  abbrev pub server_after : List Taken → Server
  server_after [] = first_server schema word most
  server_after (t ∷ ts) = t.server

  -- each event was served by the server as it was then
  abbrev pub AreServed : List Taken → Type 0
  AreServed [] = Unit {0}
  AreServed (t ∷ ts) = (serve t.event (server_after ts) ≡ Ok (t.server, t.sent)) × AreServed ts

  -- the machine's run over the same events: it ends as the server did, and what each session was sent are the texts of the messages that it was given
  pub record IsRunOf (ts : List Taken) (st : State) : Type 0 where
    pub is_run : run (served_by schema) (events ts) (beginning word most (length schema.tables)) ≡ Ok st
    pub world : st.world ≡ (server_after ts).world
    pub texts : (s : ℕ) → map text_of (st.given s) ≡ texts_since ts s

  -- Whatever a server took and sent, there is such a run.
  abbrev pub IsRun : Type 0
  IsRun = (ts : List Taken) → AreServed ts → (st : State) × IsRunOf ts st

  -- Whatever a server took and sent: at every session that is open then, of the messages whose texts were sent.
  abbrev pub HoldsOfTexts : (State → ℕ → Session → Type 0) → Type 0
  HoldsOfTexts P = (ts : List Taken) → AreServed ts → (s : ℕ) (x : Session) → get (server_after ts).world.sessions s ≡ Some x → (st : State) × IsRunOf ts st × P st s x

  -- the last message that the session was given has this text; if it is about a monitor, the client has of that what its filters select; where they are being changed, what the new ones select
  pub record EndsWhole (st : State) (s : ℕ) (x : Session) (text : Text) : Type 0 where
    pub before : List Out
    pub last : Out
    pub is_last : st.given s ≡ before ++ last ∷ []
    pub has_text : text_of last ≡ text
    pub whole : (i : Data) → about last ≡ Some i → IsWhole (served_by schema) st s x i

  -- A session is sent texts by its turn in a round alone, one at most, and the database stays. A text about a monitor brings it whole to this moment.
  abbrev pub TextsBringWhole : Type 0
  TextsBringWhole =
      (t : Taken) (ts : List Taken) → AreServed (t ∷ ts) → (s : ℕ) (before : List Text) (text : Text) (rest : List Text) → texts_to s t.sent ≡ before ++ text ∷ rest
      → (before ≡ []) × (rest ≡ []) × HasTurn s t.event × (t.server.world.db ≡ (server_after ts).world.db)
      × ((x : Session) → get t.server.world.sessions s ≡ Some x → (st : State) × IsRunOf (t ∷ ts) st × EndsWhole st s x text)

  -- Right after a server took a request that never waits, its reply is the last that the session is owed; and where it cancels a monitor, or changes its filters, the client then has what the filters select from the server's database.
  abbrev pub RepliesAreWhole : Type 0
  RepliesAreWhole =
      (t : Taken) (ts : List Taken) → AreServed (t ∷ ts) → (s : ℕ) (d : Data) (fresh : List Uuid) (moment : ℕ) → t.event ≡ submitted s d fresh moment
      → (let h : Service = served_by schema in is_replied_at_once (call_of h.db_name h.schema h.serves d)) ≡ true
      → (x : Session) → get t.server.world.sessions s ≡ Some x → (st : State) × IsRunOf (t ∷ ts) st × IsRepliedTo (served_by schema) d st s x
