-- A taking that is planned for a session, if that is open: what it will make of the session, and the text that will come. [P 10.1, 10.3]
use Rattle.std.specs.Prelude.{◌≡◌, ℕ, Bool, false, List, [], ◌∷◌, map, Option, Some, None, is_some, option_and_then, option_map, option_to_list}
use Rattle.odb_atoms.specs.FinMap.{get}
use Rattle.odb_queue.specs.Represented.Item.{text_of}
use Rattle.odb_schema.specs.Schema.{Schema}
use Rattle.odb_service.specs.Server.{served_by}
use Rattle.odb_service.specs.Service.{Service}
use Rattle.odb_service.specs.Session.{Item, Revision, Session, take}
use Rattle.odb_sessions.specs.Book.{Book, revision_in}
use Rattle.odb_sessions.specs.Carried.{used_by, finished_text}
use Rattle.odb_round.specs.Foreseen.{last_used}
use Rattle.odb_sessions.specs.Composed.{whole_text}

-- what comes: nothing, the text of the last item that is used up, or a composition with the text before it and the text after it
pub data Text : Type 0 where
  no_text last_text : Text
  composed_text : List ℕ → List ℕ → List ℕ → Text

abbrev pub text_from : Text → Option Item → Option (List ℕ)
text_from no_text last = None
text_from last_text last = option_and_then finished_text last
text_from (composed_text before body after) last = Some (whole_text before body after)

-- how many items and monitors it uses up, and the text
pub record Ready : Type 0 where
  pub items : ℕ
  pub monitors : ℕ
  pub text : Text

abbrev pub IsReadyFor : Schema → Revision → Option Session → Ready → Type 0
IsReadyFor s revision None r = r.text ≡ no_text
IsReadyFor s revision (Some x) r =
    (used_by (served_by s) revision.db r.items r.monitors x ≡ (take (served_by s) revision x).1)
    × (text_from r.text (last_used r.items x.queue) ≡ option_map text_of (take (served_by s) revision x).0)

-- the text that a taking gives
abbrev pub text_taken : Service → Revision → Option Session → Option (List ℕ)
text_taken h revision None = None
text_taken h revision (Some x) = option_map text_of (take h revision x).0

-- a session, and the taking that is planned for it
abbrev pub Pending : Type 0
Pending = ℕ × Ready

abbrev pub sessions_in : List Pending → List ℕ
sessions_in ps = map (λ p. p.0) ps

-- each is ready for its session
abbrev pub AreReady : Schema → Book → List Pending → Type 0
AreReady s b [] = Unit {0}
AreReady s b (p ∷ ps) = IsReadyFor s (revision_in b) (get b.sessions p.0) p.1 × AreReady s b ps

-- the same, whatever the schema
abbrev pub AreOf : Book → List Pending → Type 0
AreOf b ps = (s : Schema) → AreReady s b ps

-- the message that comes by the taking, with its session, if one does
abbrev pub given_by : Book → Pending → List (ℕ × List ℕ)
given_by b p = option_to_list (option_map (λ t. let q : ℕ × List ℕ = (p.0, t) in q) (text_from p.1.text (option_and_then (λ x. last_used p.1.items x.queue) (get b.sessions p.0))))

-- they begin with one whose text was finished when it was queued
abbrev pub begins_finished : List Item → Bool
begins_finished [] = false
begins_finished (i ∷ is) = is_some (finished_text i)

-- so does the queue of the session, if that is open
abbrev pub is_finished : Option Session → Bool
is_finished None = false
is_finished (Some x) = begins_finished x.queue
