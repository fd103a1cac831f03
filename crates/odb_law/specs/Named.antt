-- The commits that messages name, and what a client then has: so that it may come back. [P 9.8]
use Rattle.std.specs.Prelude.{◌≡◌, ◌<◌, ◌≤◌, ◌-◌, ◌^◌, if◌then◌else◌, bytes_eq, codes, false, ℕ, List, [], ◌∷◌, ◌++◌, Option, Some, None, option_and_then, Ok}
use Rattle.serde_json.specs.Data.{Data, string}
use Rattle.odb_atoms.specs.FinMap.{get}
use Rattle.odb_atoms.specs.Uuid.{Uuid, uuid_text}
use Rattle.odb_law.specs.Client.{Wish, adds, changes, drops, method_in, nothing_else, params_of, wish_of}
use Rattle.odb_law.specs.Headline.{IsWhole, about, is_granted}
use Rattle.odb_schema.specs.Json.{as_array, items_list}
use Rattle.odb_service.specs.Run.{Event, State, beginning, next, opens, run}
use Rattle.odb_service.specs.Service.{Service}
use Rattle.odb_service.specs.Session.{Answers, Out, Session, content_after, newest_number, no_request, to}
use Rattle.odb_service.specs.World.{revision_of}
use Rattle.odb_wire.specs.Message.{at_key}

abbrev pub second_of : List Data → Option Data
second_of [] = None
second_of (d ∷ []) = None
second_of (d ∷ e ∷ ds) = Some e

-- whether a request, once granted, has messages that name commits
abbrev pub names_commits : Wish → Option Uuid
names_commits (adds n since i requests) = since
names_commits (changes old new filters) = None
names_commits (drops i) = None
names_commits nothing_else = None

-- the commit that a message names, as JSON: that of an `update3`, or of the reply to `monitor_cond_since`
abbrev pub commit_in : Out → Option Data
commit_in o = by o.answers
  where
    by : Answers → Option Data
    by no_request = if bytes_eq (method_in o.message) (codes "update3") then second_of (params_of o.message) else None
    by (to d) = option_and_then (λ v. option_and_then (λ ds. second_of (items_list ds)) (as_array (at_key (codes "result") o.message))) (names_commits (wish_of d))

module _ (h : Service) where
  -- What a message about a monitor gives its client that names a commit: that is the newest one; what is found for it later, as long as it is one of the last, is the database as it is now; and of this the client has just what the filters select.
  pub record Holds (word most : ℕ) (now : State) (s : ℕ) (i commit : Data) : Type 0 where
    pub newest : commit ≡ string (uuid_text (newest_number (revision_of now.world)))
    pub found : (later : List Event) (at : State) → run h later now ≡ Ok at → word < 2 ^ 64 → at.world.commits < 2 ^ 64 → 1 ≤ now.world.commits → at.world.commits - now.world.commits < most
        → content_after (revision_of at.world) (newest_number (revision_of now.world)) ≡ Some now.world.db
    pub whole : (x : Session) → get now.world.sessions s ≡ Some x → IsWhole h now s x i

  -- A client that was given such a message has of its monitor what the filters select from the content that is found for the commit named.
  abbrev pub IsHeldByName : Type 0
  IsHeldByName =
      (word most tables : ℕ) (first : List Event) (st now : State) (e : Event) → run h first (beginning word most tables) ≡ Ok st → next h e st ≡ Ok now → (s : ℕ) → opens e s ≡ false
      → (os : List Out) (o : Out) (rest : List Out) → now.given s ≡ st.given s ++ os ++ o ∷ rest → (i commit : Data) → about o ≡ Some i → commit_in o ≡ Some commit → Holds word most now s i commit
