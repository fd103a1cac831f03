-- The headline: what a client folds from the messages that it is given is what its monitors select.
-- Of the view of a monitor with a kind of change switched off nothing is claimed. A client that named a commit which was found is taken to have held what its monitor selected after that commit.
use Rattle.std.specs.Prelude.{◌≡◌, ◌||◌, ◌==◌, ◌⊎◌, Bool, true, false, if◌then◌else◌, bytes_eq, codes, ℕ, List, [], ◌∷◌, ◌++◌, map, find, Option, Some, None, is_some, IsTrue, option_map, option_and_then, Ok}
use Rattle.std.specs.List.{list_any}
use Rattle.serde_json.specs.Data.{Data}
use Rattle.odb_atoms.specs.FinMap.{get}
use Rattle.odb_law.specs.Client.{Picture, Wish, adds, changes, client, drops, is_id_of, method_in, nothing_else, params_of, wish_of}
use Rattle.odb_service.specs.Run.{Event, State, beginning, closed, next, opened, opens, round, run, submitted, ticked}
use Rattle.odb_service.specs.Service.{Service}
use Rattle.odb_service.specs.Session.{Answers, Out, Session, Watch, asked, no_request, owed, shapes, to}
use Rattle.odb_monitor.specs.Fold.{is_null}
use Rattle.odb_monitor.specs.Names.{AreNamed}
use Rattle.odb_monitor.specs.View.{View, query}
use Rattle.odb_request.specs.Request.{Notation, Request}
use Rattle.odb_tables.specs.Database.{Db}
use Rattle.odb_wire.specs.Message.{at_key}
use Rattle.odb_service.specs.World.{revision_of}

-- monitor requests that are read name each table once, and in each its columns once
pub record ReadsNamed (h : Service) : Type 0 where
  pub named : (n : Notation) (d : Data) (qs : List Request) → h.read_requests n d ≡ Ok qs → AreNamed (shapes qs)

-- every kind of change is sent
abbrev pub AllSent : List Request → Type 0
AllSent [] = Unit {0}
AllSent (q ∷ qs) = (q.select ≡ record { initial = true; insert = true; delete = true; modify = true }) × AllSent qs

-- ---- what a message is about

abbrev pub first_of : List Data → Option Data
first_of [] = None
first_of (d ∷ ds) = Some d

-- the monitor of a notification of table updates
abbrev pub updated : Data → Option Data
updated m = if bytes_eq (method_in m) (codes "update") || (bytes_eq (method_in m) (codes "update2") || bytes_eq (method_in m) (codes "update3")) then first_of (params_of m) else None

-- a reply without error
abbrev pub is_granted : Data → Bool
is_granted m = is_null (at_key (codes "error") m)

abbrev pub begun_by : Wish → Option Data
begun_by (adds n since i requests) = Some i
begun_by (changes old new filters) = None
begun_by (drops i) = None
begun_by nothing_else = None

-- the monitor whose table updates a message has
abbrev pub about : Out → Option Data
about o = by o.answers
  where
    by : Answers → Option Data
    by no_request = updated o.message
    by (to d) = if is_granted o.message then begun_by (wish_of d) else None

-- the event is a round in which the session has a turn
abbrev pub HasTurn : ℕ → Event → Type 0
HasTurn s (round ss) = IsTrue (list_any (λ t. t == s) ss)
HasTurn s (opened t) = ⊥
HasTurn s (submitted t d fresh now) = ⊥
HasTurn s (ticked now) = ⊥
HasTurn s (closed t) = ⊥

module _ (h : Service) where
  -- some run ends here
  abbrev pub IsReached : State → Type 0
  IsReached st = (word : ℕ) × (most : ℕ) × (tables : ℕ) × (events : List Event) × (run h events (beginning word most tables) ≡ Ok st)

  -- at every open session, after every run
  abbrev pub HoldsAlways : (State → ℕ → Session → Type 0) → Type 0
  HoldsAlways P = (st : State) → IsReached st → (s : ℕ) (x : Session) → get st.world.sessions s ≡ Some x → P st s x

  -- a view is just what the requests select from the database
  abbrev pub IsNow : Db → List Request → Option View → Type 0
  IsNow db qs v = AllSent qs → v ≡ Some (query db qs)

  abbrev pub AllNow : Db → List Picture → Type 0
  AllNow db [] = Unit {0}
  AllNow db (p ∷ ps) = IsNow db p.requests p.view × AllNow db ps

  -- the picture that a client has of a monitor after these messages
  abbrev pub pictured : Data → List Out → Option Picture
  pictured i os = option_and_then (λ ps. find (is_id_of h i) ps) (client h os)

  -- A client that takes all that it is still owed has of each of its monitors just what its newest filters select from the database now.
  abbrev pub IsBroughtToNow : State → ℕ → Session → Type 0
  IsBroughtToNow st s x = (ps : List Picture) × (client h (st.given s ++ owed h (revision_of st.world) x) ≡ Some ps) × AllNow st.world.db ps

  -- The monitors that it then has, with their notations and filters, are those that the server counts as asked for.
  abbrev pub IsKnown : State → ℕ → Session → Type 0
  IsKnown st s x =
      option_map (map {B = Watch} (λ p. record { id = p.id; notation = p.notation; requests = p.requests; since = p.since })) (client h (st.given s ++ owed h (revision_of st.world) x)) ≡ Some (asked h x)

  -- No message is refused: each is non-empty and names only rows and columns that differ.
  abbrev pub IsMinimal : State → ℕ → Session → Type 0
  IsMinimal st s x = IsTrue (is_some (client h (st.given s)))

  -- the last message was an update of this monitor
  pub record WasLast (i : Data) (os : List Out) : Type 0 where
    pub before : List Out
    pub last : Out
    pub is_last : os ≡ before ++ last ∷ []
    pub id : Data
    pub of_it : updated last.message ≡ Some id
    pub same : bytes_eq (h.printed i) (h.printed id) ≡ true

  -- A cancel is answered when the client has just what the filters select: now, or, where its turn came to the message before the reply already, as it was then.
  abbrev pub IsDroppedWhole : State → ℕ → Session → Type 0
  IsDroppedWhole st s x =
      (a : List Out) (o : Out) (b : List Out) (d i : Data) → owed h (revision_of st.world) x ≡ a ++ o ∷ b → o.answers ≡ to d → is_granted o.message ≡ true → wish_of d ≡ drops i
      → (p : Picture) × (pictured i (st.given s ++ a) ≡ Some p) × (IsNow st.world.db p.requests p.view ⊎ ((a ≡ []) × WasLast i (st.given s)))

  -- A change of filters is answered when the client has just what the new filters select: now, or, where its turn came to the message before the reply already, as it was then.
  abbrev pub IsChangedWhole : State → ℕ → Session → Type 0
  IsChangedWhole st s x =
      (a : List Out) (o : Out) (b : List Out) (d old new filters : Data) → owed h (revision_of st.world) x ≡ a ++ o ∷ b → o.answers ≡ to d → is_granted o.message ≡ true → wish_of d ≡ changes old new filters
      → (p : Picture) × (pictured new (st.given s ++ a ++ o ∷ []) ≡ Some p) × (IsNow st.world.db p.requests p.view ⊎ ((a ≡ []) × WasLast old (st.given s)))

  -- A change of filters is on its way: its reply is owed next. With that the monitor has its new id and filters, and the view stays.
  pub record IsChanging (st : State) (s : ℕ) (x : Session) (p : Picture) : Type 0 where
    pub reply : Out
    pub rest : List Out
    pub is_next : owed h (revision_of st.world) x ≡ reply ∷ rest
    pub request : Data
    pub answers : reply.answers ≡ to request
    pub granted : is_granted reply.message ≡ true
    pub old : Data
    pub new : Data
    pub filters : Data
    pub asks : wish_of request ≡ changes old new filters
    pub is_old : is_id_of h old p ≡ true
    pub later : Picture
    pub is_later : pictured new (st.given s ++ reply ∷ []) ≡ Some later
    pub same : later.view ≡ p.view
    pub now : IsNow st.world.db later.requests later.view

  -- the client has of this monitor just what its filters select; where they are being changed, what the new ones select
  abbrev pub IsWhole : State → ℕ → Session → Data → Type 0
  IsWhole st s x i = (p : Picture) × (pictured i (st.given s) ≡ Some p) × (IsNow st.world.db p.requests p.view ⊎ IsChanging st s x p)

  -- A session is given messages by its turn in a round alone, one at most, and the database stays. A message about a monitor brings it whole to this moment.
  abbrev pub BringsWhole : Type 0
  BringsWhole =
      (st : State) → IsReached st → (e : Event) (now : State) → next h e st ≡ Ok now → (s : ℕ) → opens e s ≡ false
      → (os : List Out) (o : Out) (rest : List Out) → now.given s ≡ st.given s ++ os ++ o ∷ rest
      → (os ≡ []) × (rest ≡ []) × HasTurn s e × (now.world.db ≡ st.world.db)
      × ((x : Session) → get now.world.sessions s ≡ Some x → (i : Data) → about o ≡ Some i → IsWhole now s x i)
