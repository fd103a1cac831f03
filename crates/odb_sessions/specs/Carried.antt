-- A taking that is carried out: what becomes of marks, and which text comes. [P 10.1]
use Rattle.std.specs.Prelude.{◌≡◌, ℕ, zero, suc, ◌+◌, ◌<◌, List, [], ◌∷◌, Option, Some, None, option_and_then, slice_get}
use Rattle.odb_chain.specs.Chains.{Chains, IsNow, Mark, count, version}
use Rattle.odb_atoms.specs.FinMap.{get, insert}
use Rattle.odb_schema.specs.Schema.{Schema}
use Rattle.odb_service.specs.Server.{served_by}
use Rattle.odb_service.specs.Service.{Service}
use Rattle.odb_service.specs.Session.{Item, Session, renamed, say, shift, start, stopped, sync, Monitor, brought, leaves, no_result, take}
use Rattle.odb_sessions.specs.Marked.{MarkedItem, MarkedSession, Sessions, due, marks_of, plain, seen}
use Rattle.odb_sessions.specs.Represented.Origin.{granted}
use Rattle.odb_sessions.specs.Tied.{AreLive, HasAll, KeepsContents, uses}
use Rattle.odb_sessions.specs.Watches.{KeepsWatch}
use Rattle.odb_tables.specs.Database.{Db}
use Rattle.odb_rpc.specs.Message.{reply}
use Rattle.odb_sessions.specs.Book.{Book, revision_in}
use Rattle.odb_wire.specs.Message.{id_of}
use Rattle.serde_json.specs.Written.{compact_text}

-- the text of an item that was finished when it was queued
abbrev pub finished_text : Item → Option (List ℕ)
finished_text (say a d) = Some (compact_text d)
finished_text (start d k) = None
finished_text (sync i) = None
finished_text (shift i fs) = None
finished_text (renamed d old new fs) = Some (compact_text (reply (id_of d) no_result))
finished_text (stopped d i) = Some (compact_text (reply (id_of d) no_result))

module _ (h : Service) where
  -- ---- a plan carried out

  -- the first n monitors are brought to now
  abbrev pub first_brought : Db → ℕ → List Monitor → List Monitor
  first_brought db zero ms = ms
  first_brought db (suc n) [] = []
  first_brought db (suc n) (m ∷ ms) = brought h db m.watch.requests m ∷ first_brought db n ms

  abbrev pub used_up : Db → ℕ → ℕ → List Item → List Monitor → Session
  used_up db zero k is ms = record { queue = is; monitors = first_brought db k ms }
  used_up db (suc n) k [] ms = record { queue = []; monitors = first_brought db k ms }
  used_up db (suc n) k (i ∷ is) ms = used_up db n k is (leaves h db i ms)

-- the marks are live and counted, and no version is later than now
abbrev pub IsReady : Chains → List Mark → Type 0
IsReady k ms = IsNow k × HasAll k ms

-- these marks have others in their place, which are live; what came stands for now, and all other marks stay
abbrev pub Carries : Chains → Chains → List Mark → List Mark → Type 0
Carries old new xs ys = (new.db ≡ old.db) × (new.versions ≡ old.versions) × ((t p : ℕ) → count old t p + uses t p ys ≡ count new t p + uses t p xs) × ((t p : ℕ) → count old t p < count new t p → p ≡ version old t) × KeepsContents old new × IsNow new × AreLive new ys

-- n items of the queue are used up, and then k monitors brought to now
abbrev pub used_by : Service → Db → ℕ → ℕ → Session → Session
used_by h db n k x = used_up h db n k x.queue x.monitors

-- the text that stands in an item, finished
abbrev pub finished_in : Item → Option Item
finished_in (say a d) = Some (say a d)
finished_in (start d k) = None
finished_in (sync i) = None
finished_in (shift i fs) = None
finished_in (renamed d old new fs) = Some (granted d)
finished_in (stopped d i) = Some (granted d)

-- that of the last of the first n items
abbrev pub last_finished : ℕ → List Item → Option Item
last_finished zero is = None
last_finished (suc n) is = option_and_then finished_in (slice_get is n)

-- how many monitors begin with an item, and with these
abbrev pub begins : MarkedItem → ℕ
begins (plain i) = 0
begins (due d x) = 1

abbrev pub all_begin : List MarkedItem → ℕ
all_begin [] = 0
all_begin (q ∷ qs) = begins q + all_begin qs

-- the session is carried so far, and its marks and the chains with it; where it isn't open nothing changes
abbrev pub IsCarriedOut : Chains → Chains → Sessions → Sessions → ℕ → ℕ → ℕ → Type 0
IsCarriedOut old new m then s n k =
    ((x : MarkedSession) → get m s ≡ Some x → (y : MarkedSession) × (then ≡ insert m s y) × Carries old new (marks_of x) (marks_of y) × ((schema : Schema) → seen y ≡ used_by (served_by schema) old.db n k (seen x)) × KeepsWatch x y)
    × (get m s ≡ None → (then ≡ m) × (new ≡ old))

-- so many items and monitors are what a taking of the session uses up, if it is open
abbrev pub UsesUp : Book → ℕ → ℕ → ℕ → Type 0
UsesUp b n items monitors = (s : Schema) (x : Session) → get b.sessions n ≡ Some x → used_by (served_by s) b.db items monitors x ≡ (take (served_by s) (revision_in b) x).1
