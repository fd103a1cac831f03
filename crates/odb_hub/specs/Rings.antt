-- What the rings of sessions were sent, and what is held back.
use Rattle.std.specs.Prelude.{◌≡◌, ◌⊎◌, ℕ, ◌==◌, ◌≤◌, nat_le, length, Bool, true, false, List, [], ◌∷◌, ◌++◌, Option, Some, None, is_some, not, filter, map, option_to_list, refl, if◌then◌else◌}
use Rattle.std.specs.BTreeSet.{BTreeSet, contains}
use Rattle.std.specs.Coded.{Coded, code_by, coded×, coded_ℕ, coded_list, coded_option}
use Rattle.std.specs.Ordering.{nat_cmp}
use denote.RawPtr.{Ptr, coded_ptr}
use Rattle.odb_atoms.specs.FinMap as map
use Rattle.odb_atoms.specs.FinMap.{FinMap, get, entries_of}
use Rattle.odb_hub.specs.Room.{IsLooked, has_room, size_of}

abbrev pub Text : Type 0
Text = List ℕ

-- which ring it is: where it lies in memory, and what its two ends are called in proofs. Ends that have one name are the two of one ring
abbrev pub Name : Type 0
Name = Ptr × (Ptr × (ℕ × (ℕ × ℕ)))

abbrev pub name_code : Coded Name
name_code = coded× coded_ptr (coded× coded_ptr (coded× coded_ℕ (coded× coded_ℕ coded_ℕ)))

-- the messages of a session that were sent into its ring, the sizes of those that may be in it still, and the message that is held back, where the ring had no room for it
pub record Ring : Type 0 where
  pub name : Name
  pub sent : List Text
  pub waiting : List ℕ
  pub held : Option Text

abbrev pub ring_code : Coded Ring
ring_code =
    code_by (Name × (List Text × (List ℕ × Option Text))) (coded× name_code (coded× (coded_list (coded_list coded_ℕ)) (coded× (coded_list coded_ℕ) (coded_option (coded_list coded_ℕ)))))
    (λ r. (r.name, (r.sent, (r.waiting, r.held)))) (λ p. record { name = p.0; sent = p.1.0; waiting = p.1.1.0; held = p.1.1.1 }) (λ _. refl)

-- by sessions
abbrev pub Rings : Type 0
Rings = FinMap nat_cmp Ring

abbrev pub rings_code : Coded Rings
rings_code = map.code coded_ℕ ring_code

-- that nothing was sent into
abbrev pub fresh_ring : Name → Ring
fresh_ring name = record { name = name; sent = []; waiting = []; held = None }

-- all that the session is sent, in order
abbrev pub texts : Ring → List Text
texts r = r.sent ++ option_to_list r.held

-- what a text makes of a ring that is known to have these in it: it is sent where there is room, and else held back
abbrev pub PutsBy : Bool → Text → List ℕ → Ring → Ring → Type 0
PutsBy true text waiting old new = new ≡ record { name = old.name; sent = old.sent ++ text ∷ []; waiting = waiting ++ size_of text ∷ []; held = None }
PutsBy false text waiting old new = new ≡ record { name = old.name; sent = old.sent; waiting = waiting; held = Some text }

-- the text comes after what was sent: it is learnt what was taken out, and then it is sent too, or held back where there is no room
abbrev pub IsPut : Text → Ring → Ring → Type 0
IsPut text old new = (waiting : List ℕ) × IsLooked old.waiting waiting × PutsBy (has_room waiting (size_of text)) text waiting old new

-- it is learnt what was taken out, and nothing else changes
abbrev pub IsLookedAt : Ring → Ring → Type 0
IsLookedAt old new = (waiting : List ℕ) × IsLooked old.waiting waiting × (new ≡ record old { waiting = waiting })

-- it is learnt what was taken out, and there is no room for the text
abbrev pub IsUnsent : Text → Ring → Ring → Type 0
IsUnsent text old new = IsLookedAt old new × (has_room new.waiting (size_of text) ≡ false)

-- what is held back is put again; or nothing happens
abbrev pub IsFlushed : Ring → Ring → Type 0
IsFlushed old new = (new ≡ old) ⊎ ((text : Text) × (old.held ≡ Some text) × IsPut text old new)

-- it holds back the same, and nothing more was sent
abbrev pub StillHolds : Ring → Ring → Type 0
StillHolds old new = (new.name ≡ old.name) × (new.sent ≡ old.sent) × (new.held ≡ old.held)

-- there is no room for what is held back, as far as it is known what was taken out
abbrev pub IsShort : Ring → Type 0
IsShort r = (text : Text) → r.held ≡ Some text → has_room r.waiting (size_of text) ≡ false

-- each ring that holds a message back has no room for it
abbrev pub AreShort : Rings → Type 0
AreShort rings = (s : ℕ) (r : Ring) → get rings s ≡ Some r → IsShort r

abbrev pub IsFlushedAt : Option Ring → Option Ring → Type 0
IsFlushedAt None o = o ≡ None
IsFlushedAt (Some a) o = (b : Ring) × (o ≡ Some b) × IsFlushed a b

-- nothing is held back for this session, which has a ring
abbrev pub is_free : Ring → Bool
is_free r = not (is_some r.held)

abbrev pub is_free_at : Option Ring → Bool
is_free_at None = false
is_free_at (Some r) = is_free r

-- the sessions for which nothing is held back, ascending
abbrev pub free_of : Rings → List ℕ
free_of m = map (λ e. e.0) (filter (λ e. is_free e.1) (entries_of m))

-- those of these sessions for which nothing is held back, from a number on, ascending
abbrev pub ready_among : BTreeSet ℕ → ℕ → Rings → List ℕ
ready_among owed from m = filter (λ s. nat_le from s) (filter (contains nat_cmp owed) (free_of m))

-- what is sent to a session, in order
abbrev pub texts_to : ℕ → List (ℕ × Text) → List Text
texts_to s [] = []
texts_to s (o ∷ os) = if o.0 == s then o.1 ∷ texts_to s os else texts_to s os

-- what a ring becomes by these messages, of which one is held back at most
abbrev pub HandsOver : Option Ring → List Text → Option Ring → Type 0
HandsOver None outs o = (outs ≡ []) × (o ≡ None)
HandsOver (Some a) outs o = (b : Ring) × (o ≡ Some b) × ((more : List Text) × (b.sent ≡ a.sent ++ more) × (more ++ option_to_list b.held ≡ option_to_list a.held ++ outs)) × (outs ≡ [] → b ≡ a) × (b.name ≡ a.name)

-- what a round makes of a session's ring, where it has one. What is held back goes first; where it is still held back the session isn't listed, and is sent nothing. A session that is listed is sent what the round gives it, or it is held back
abbrev pub IsServed : Bool → List Text → Option Ring → Option Ring → Type 0
IsServed listed outs None o = (listed ≡ false) × (outs ≡ []) × (o ≡ None)
IsServed false outs (Some a) o = (is_some a.held ≡ true) × (outs ≡ []) × (b : Ring) × (o ≡ Some b) × StillHolds a b
IsServed true outs (Some a) o = (b : Ring) × (o ≡ Some b) × (more : List Text) × (b.sent ≡ texts a ++ more) × (more ++ option_to_list b.held ≡ outs) × (b.name ≡ a.name)

-- how many messages a session may be given while at most one is held back
abbrev pub room_of : Option Ring → ℕ
room_of None = 0
room_of (Some r) = if is_free r then 1 else 0

abbrev pub HasRoom : Option Ring → List Text → Type 0
HasRoom o outs = length outs ≤ room_of o

-- what putting a message makes of its session's ring, and of another's
abbrev pub IsPutAt : Bool → Text → Option Ring → Option Ring → Type 0
IsPutAt true text None o = o ≡ None
IsPutAt true text (Some a) o = (b : Ring) × (o ≡ Some b) × IsPut text a b
IsPutAt false text a o = o ≡ a
