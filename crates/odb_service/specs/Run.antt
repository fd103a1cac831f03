-- Runs: lists of events from the state with empty tables, and what each session is given. [P 10.3, 10.5, 13.1, 14]
use Rattle.odb_wire.specs.Message.{is_request}
use Rattle.std.specs.Prelude.{ℕ, ◌==◌, nat_lt, Bool, false, not, ◌&&◌, if◌then◌else◌, List, [], ◌∷◌, ◌++◌, filter, Option, Some, None, is_some, replicate, Result, Ok, Err}
use Rattle.serde_json.specs.Data.{Data}
use Rattle.odb_atoms.specs.FinMap as map
use Rattle.odb_atoms.specs.FinMap.{FinMap, get, insert, len}
use Rattle.odb_service.specs.Service.{Service}
use Rattle.odb_service.specs.Session.{Out, Session, nothing_earlier, take}
use Rattle.odb_service.specs.World.{World, at_moment, close, handle, owed_replies, revision_of, tick}
use Rattle.odb_rpc.specs.Message.{call_of, has_reply}
use Rattle.odb_atoms.specs.Uuid.{Uuid}

pub data Event : Type 0 where
  opened : ℕ → Event
  submitted : (session : ℕ) → (message : Data) → (fresh : List Uuid) → (now : ℕ) → Event
  ticked : ℕ → Event
  closed : ℕ → Event
  round : List ℕ → Event

abbrev pub max_sessions : ℕ
max_sessions = 4096

abbrev pub max_owed : ℕ
max_owed = 256

-- why an event is refused. `in_use` is of no caller: a server opens under an identifier that no open session has
pub data Refusal : Type 0 where
  too_many gone busy in_use : Refusal

abbrev pub if_ok : {A B E : Type 0} → (A → Result B E) → Result A E → Result B E
if_ok f (Ok x) = f x
if_ok f (Err e) = Err e

-- an out for a session
abbrev pub Sent : Type 0
Sent = ℕ × Out

-- each once, where it stands first
abbrev pub once : List ℕ → List ℕ
once [] = []
once (s ∷ ss) = s ∷ filter (λ t. not (t == s)) (once ss)

abbrev pub sent : ℕ → Option Out → List Sent
sent s None = []
sent s (Some o) = (s, o) ∷ []

module _ (h : Service) where
  -- one taking for a session, if it is open
  abbrev pub take_of : ℕ → Option Session → World → World × List Sent
  take_of s None w = (w, [])
  take_of s (Some x) w = (record w { sessions = insert w.sessions s (take h (revision_of w) x).1 }, sent s (take h (revision_of w) x).0)

  abbrev pub take_each : List ℕ → World → World × List Sent
  take_each [] w = (w, [])
  take_each (s ∷ ss) w =
      let one = take_of s (get w.sessions s) w in
      let rest = take_each ss one.0 in
      (rest.0, one.1 ++ rest.1)

  -- busy where the request has a reply and the session is owed too many
  abbrev pub submit : ℕ → Option Session → Data → List Uuid → ℕ → World → Result World Refusal
  submit s None d fresh now w = Err gone
  submit s (Some x) d fresh now w =
      let call = call_of h.db_name h.schema h.serves d in
      if has_reply call && not (nat_lt (owed_replies h s x w) max_owed) then Err busy else Ok (handle h s d fresh call (at_moment h now w))

  -- the state after an event and what it sends, or why it is refused
  abbrev pub step : Event → World → Result (World × List Sent) Refusal
  step (opened s) w =
      if not (nat_lt (len w.sessions) max_sessions) then Err too_many
      else (if is_some (get w.sessions s) then Err in_use
      else Ok (record w { sessions = insert w.sessions s (record { queue = []; monitors = [] }) }, []))
  step (submitted s d fresh now) w = if_ok (λ v. Ok (v, [])) (submit s (get w.sessions s) d fresh now w)
  step (ticked now) w = Ok (tick h now w, [])
  step (closed s) w = if is_some (get w.sessions s) then Ok (close h s w, []) else Err gone
  step (round ss) w = Ok (take_each (once ss) w)

-- the world; and, for each session since it was opened, what it was given and the requests that it submitted
pub record State : Type 0 where
  pub world : World
  pub given : ℕ → List Out
  pub requests : ℕ → List Data

abbrev pub sent_to : ℕ → List Sent → List Out
sent_to s [] = []
sent_to s (o ∷ os) = if o.0 == s then o.1 ∷ sent_to s os else sent_to s os

abbrev pub opens : Event → ℕ → Bool
opens (opened t) s = t == s
opens (submitted t d fresh now) s = false
opens (ticked now) s = false
opens (closed t) s = false
opens (round ss) s = false

abbrev pub given_after : Event → List Sent → (ℕ → List Out) → ℕ → List Out
given_after e os f s = if opens e s then [] else f s ++ sent_to s os

abbrev pub requests_after : Event → (ℕ → List Data) → ℕ → List Data
requests_after (opened t) f s = if t == s then [] else f s
requests_after (submitted t d fresh now) f s = if (t == s) && is_request d then f s ++ d ∷ [] else f s
requests_after (ticked now) f s = f s
requests_after (closed t) f s = f s
requests_after (round ss) f s = f s

-- the state with empty tables and no session, in a run with this word, of which so many contents can be found
abbrev pub beginning : (run most tables : ℕ) → State
beginning run most tables = record {
  world = record { db = replicate tables map.empty; commits = 0; earlier = nothing_earlier run most; now = 0; waiting = []; locks = map.empty; sessions = map.empty };
  given = λ s. [];
  requests = λ s. [];
}

module _ (h : Service) where
  abbrev pub after : Event → State → World × List Sent → State
  after e st r = record { world = r.0; given = given_after e r.1 st.given; requests = requests_after e st.requests }

  abbrev pub next : Event → State → Result State Refusal
  next e st = if_ok (λ r. Ok (after e st r)) (step h e st.world)

  -- a run ends where an event is refused: a refused step is no event
  abbrev pub run : List Event → State → Result State Refusal
  run [] st = Ok st
  run (e ∷ es) st = if_ok (run es) (next e st)
