-- What is said of the service beside the headline: refusals, rounds, what is owed, answers, and waiting.
use Rattle.std.specs.Prelude.{◌≡◌, ◌≤◌, ◌<◌, ◌+◌, ◌-◌, ◌^◌, ◌==◌, ◌&&◌, ◌||◌, Bool, true, false, not, nat_lt, if◌then◌else◌, ℕ, List, [], ◌∷◌, ◌++◌, map, length, replicate, count_by, Option, Some, None, is_some, IsTrue, option_to_list, Ok, Err}
use Rattle.std.specs.Result.{result_err}
use Rattle.serde_json.specs.Data.{Data}
use Rattle.odb_rpc.specs.Message as message
use Rattle.odb_atoms.specs.FinMap.{get, insert, len}
use Rattle.odb_law.specs.Headline.{IsReached}
use Rattle.odb_service.specs.Run.{Event, Refusal, State, beginning, busy, closed, gone, in_use, max_owed, max_sessions, next, once, opened, opens, round, run, submitted, ticked, too_many}
use Rattle.odb_wire.specs.Message.{is_request}
use Rattle.odb_service.specs.Service.{Outcome, Service, ended, waiting}
use Rattle.odb_service.specs.Session.{Answers, Out, Revision, Session, Watch, asked, at_first, changed, content_after, drop_first, newest_number, no_request, owed, same_id, take, to, with_content}
use Rattle.odb_wire.specs.Message.{id_of}
use Rattle.odb_request.specs.Request.{is_conditional}
use Rattle.odb_service.specs.World.{Waiting, World, are_monitored, at_moment, owed_replies, revision_of, untried, watched}
use Rattle.odb_locks.specs.Locks.{owns}
use Rattle.odb_rpc.specs.Message.{Call, call_of, reply}
use Rattle.odb_tables.specs.Database.{Db}
use Rattle.odb_atoms.specs.Uuid.{Uuid}

-- whether a session is open after an event, given whether it was before
abbrev pub open_after : Event → ℕ → Bool → Bool
open_after (opened t) s b = (t == s) || b
open_after (closed t) s b = not (t == s) && b
open_after (submitted t d fresh now) s b = b
open_after (ticked now) s b = b
open_after (round ss) s b = b

module _ (h : Service) where
  -- ---- events

  -- why an event is refused, if it is: too many sessions, one that isn't open, or one that is owed too many replies for a request that has one
  abbrev pub refusal : State → Event → Option Refusal
  refusal st (opened s) =
      if not (nat_lt (len st.world.sessions) max_sessions) then Some too_many
      else (if is_some (get st.world.sessions s) then Some in_use else None)
  refusal st (submitted s d fresh now) = elim (get st.world.sessions s) [
    | None ↦ Some gone
    | Some x ↦ (if is_request d && not (nat_lt (owed_replies h s x st.world) max_owed) then Some busy else None)
  ]
  refusal st (closed s) = if is_some (get st.world.sessions s) then None else Some gone
  refusal st (ticked now) = None
  refusal st (round ss) = None

  -- Events are refused for these reasons alone, and sessions open and close by their events alone.
  pub record TakesEvents : Type 0 where
    pub refused : (st : State) (e : Event) → result_err (next h e st) ≡ refusal st e
    pub sessions : (st now : State) (e : Event) → next h e st ≡ Ok now → (s : ℕ) → is_some (get now.world.sessions s) ≡ open_after e s (is_some (get st.world.sessions s))

  -- ---- rounds

  -- the state in which this session took once, and nothing else differs
  abbrev pub after_taking : ℕ → Session → State → State
  after_taking s x st = record {
    world = record (st.world) { sessions = insert st.world.sessions s (take h (revision_of st.world) x).1 };
    given = λ t. if t == s then st.given t ++ option_to_list (take h (revision_of st.world) x).0 else st.given t;
    requests = st.requests;
  }

  -- A round of one session is one taking for it, or nothing where it isn't open. A round of many is the rounds of each, once, in order.
  pub record RoundsTake : Type 0 where
    pub one : (st : State) (s : ℕ) (x : Session) → get st.world.sessions s ≡ Some x → next h (round (s ∷ [])) st ≡ Ok (after_taking s x st)
    pub closed : (st : State) (s : ℕ) → get st.world.sessions s ≡ None → next h (round (s ∷ [])) st ≡ Ok st
    pub many : (st : State) (ss : List ℕ) → next h (round ss) st ≡ run h (map (λ s. round (s ∷ [])) (once ss)) st

  -- What is owed to a session is what rounds give it until they give nothing: this comes after as many as it has messages.
  abbrev pub OwedIsTaken : Type 0
  OwedIsTaken =
      (st : State) (s : ℕ) (x : Session) → get st.world.sessions s ≡ Some x → (more : ℕ)
      → (now : State) × (run h (replicate (length (owed h (revision_of st.world) x) + more) (round (s ∷ []))) st ≡ Ok now) × (now.given s ≡ st.given s ++ owed h (revision_of st.world) x) × (now.world.db ≡ st.world.db)

  -- ---- monitors

  -- What a request makes of the monitors that its session asked for: one more, if its id is new and its requests can be read; new filters and a new id of one, if it is conditional and monitors the tables named, and the new id is its own or new; one fewer.
  abbrev pub asked_then : Call → List Watch → List Watch
  asked_then (message.monitor id n i requests since) ks =
      if is_some (watched h i ks) then ks
      else elim (h.read_requests n requests) [ Err e ↦ ks | Ok qs ↦ ks ++ record { id = i; notation = n; requests = qs; since = since } ∷ [] ]
  asked_then (message.change_filters id old new filters) ks = elim (watched h old ks) [
    | None ↦ ks
    | Some k ↦ elim (h.read_filters filters) [
      | Err e ↦ ks
      | Ok fs ↦ (if is_conditional k.notation && ((same_id h old new || not (is_some (watched h new ks))) && are_monitored h fs k.requests) then at_first (λ k. same_id h old k.id) (changed h new fs) ks else ks)
    ]
  ]
  asked_then (message.cancel_monitor id i) ks = drop_first (λ k. same_id h i k.id) ks
  asked_then _ ks = ks

  abbrev pub asked_by : Event → ℕ → List Watch → List Watch
  asked_by (submitted t d fresh now) s ks = if t == s then asked_then (call_of h.db_name h.schema h.serves d) ks else ks
  asked_by _ s ks = ks

  -- The monitors that a session asked for change by its own requests alone, and by each that nothing stands against.
  abbrev pub IsGranted : Type 0
  IsGranted =
      (st now : State) (e : Event) → next h e st ≡ Ok now → (s : ℕ) (x y : Session) → opens e s ≡ false
      → get st.world.sessions s ≡ Some x → get now.world.sessions s ≡ Some y → asked h y ≡ asked_by e s (asked h x)

  -- ---- the database

  -- the database, the number of commits, and what can be found of earlier contents, after a transaction
  abbrev pub with_outcome : Outcome → Revision → Revision
  with_outcome (ended results None) r = r
  with_outcome (ended results (Some db)) r = record { db = db; commits = r.commits + 1; earlier = with_content r.db r.earlier }
  with_outcome (waiting deadline) r = r

  abbrev pub run_at_once : ℕ → List Uuid → Call → World → Revision
  run_at_once s fresh (message.transact id operations) w =
      with_outcome (h.transact w.db (w.commits + 1) operations (record { fresh = fresh; arrival = w.now; now = w.now; owns = owns w.locks s })) (revision_of w)
  run_at_once s fresh _ w = revision_of w

  abbrev pub committed_by : Event → World → Revision
  committed_by (submitted s d fresh now) w = run_at_once s fresh (call_of h.db_name h.schema h.serves d) (at_moment h now w)
  committed_by _ w = revision_of w

  -- Where no transaction waits, one that is submitted is run at once, and nothing else changes the database.
  abbrev pub IsCommitted : Type 0
  IsCommitted = (st now : State) (e : Event) → next h e st ≡ Ok now → st.world.waiting ≡ [] → revision_of now.world ≡ committed_by e st.world

  -- Where no transaction waits, the reply to one that changed the database has its results, and is the last that its session is then owed: what the transaction changed is told before.
  abbrev pub IsToldBefore : Type 0
  IsToldBefore =
      (st now : State) → IsReached h st → (s : ℕ) (d : Data) (fresh : List Uuid) (moment : ℕ) → next h (submitted s d fresh moment) st ≡ Ok now → st.world.waiting ≡ []
      → (id : Data) (operations : List Data) → call_of h.db_name h.schema h.serves d ≡ message.transact id operations
      → (results : Data) (db : Db) → (let w = at_moment h moment st.world in h.transact w.db (w.commits + 1) operations (record { fresh = fresh; arrival = w.now; now = w.now; owns = owns w.locks s }) ≡ ended results (Some db))
      → (y : Session) → get now.world.sessions s ≡ Some y → (a : List Out) × (owed h (revision_of now.world) y ≡ a ++ record { answers = to d; message = reply (id_of d) results; held = None } ∷ [])

  -- What is found for a commit is the database as it was after it, as long as it is one of the last: `most` is how many contents can be found.
  abbrev pub IsFoundAgain : Type 0
  IsFoundAgain =
      (word most tables : ℕ) (first later : List Event) (old now : State) → run h first (beginning word most tables) ≡ Ok old → run h later old ≡ Ok now → word < 2 ^ 64 → now.world.commits < 2 ^ 64
      → 1 ≤ old.world.commits → now.world.commits - old.world.commits < most → content_after (revision_of now.world) (newest_number (revision_of old.world)) ≡ Some old.world.db

  -- ---- answers

  abbrev pub answers_one : (Data → Bool) → Out → Bool
  answers_one is o = by o.answers
    where
      by : Answers → Bool
      by no_request = false
      by (to d) = is d

  -- Whichever requests are counted: those that a session submitted since it was opened are those that were answered, those whose answers it is owed, and those that wait, each once.
  abbrev pub IsAnsweredOnce : State → ℕ → Session → Type 0
  IsAnsweredOnce st s x =
      (is : Data → Bool)
      → count_by is (st.requests s) ≡ count_by (answers_one is) (st.given s ++ owed h (revision_of st.world) x) + count_by (λ p. (p.session == s) && is p.request) st.world.waiting

  -- As many requests were submitted as replies were given and are owed; and more than 256 are never owed.
  pub record IsCounted (st : State) (s : ℕ) (x : Session) : Type 0 where
    pub submitted : length (st.requests s) ≡ count_by (answers_one (λ d. true)) (st.given s) + owed_replies h s x st.world
    pub most : owed_replies h s x st.world ≤ max_owed

  -- ---- waiting

  -- the transaction of an open session had to wait: at some moment so far, with the locks that its session then owned, it was tried on the database as it is
  abbrev pub HadToWait : World → Waiting → Type 0
  HadToWait w p =
      IsTrue (is_some (get w.sessions p.session)) × (moment : ℕ) × (moment ≤ w.now) × (owns : List ℕ → Bool)
      × (h.transact w.db (w.commits + 1) p.operations (record { fresh = p.fresh; arrival = p.arrival; now = moment; owns = owns }) ≡ waiting p.deadline)

  abbrev pub AllHadToWait : World → List Waiting → Type 0
  AllHadToWait w [] = Unit {0}
  AllHadToWait w (p ∷ ps) = HadToWait w p × AllHadToWait w ps

  -- Each waiting transaction is of an open session, and was tried on the database as it is now, and had to wait.
  pub record AllAreTried : Type 0 where
    pub tried : (st : State) → IsReached h st → untried h st.world ≡ None
    pub waited : (st : State) → IsReached h st → AllHadToWait st.world st.world.waiting
