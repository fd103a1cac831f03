-- The stream of a session's client as far as it was read: which of its requests were submitted, and which are still to be. [P 7.1, 7.2, 15.2]
use Rattle.std.specs.Prelude.{◌≡◌, ℕ, Bool, true, false, is_some, List, [], ◌∷◌, ◌++◌, drop, filter, map, refl, take, Result}
use Rattle.std.specs.Coded.{Coded, code_by, coded×, coded_ℕ, coded_list, coded_bool}
use Rattle.serde_json.specs.Data.{Data}
use Rattle.odb_atoms.specs.Uuid.{Uuid, uuid_code}
use Rattle.odb_schema.specs.JsonCode.{data_code}
use Rattle.odb_service.specs.Run.{Event, submitted}
use Rattle.odb_wire.specs.Message.{method_of}
use Rattle.odb_wire.specs.Stream.{messages}
use Rattle.odb_core.specs.declared.refused.EventRefusal.{EventRefusal}
use Rattle.odb_hub.specs.Batch.{Submits}
use Rattle.odb_hub.specs.Guarded.{Guarded}

-- a request or a notification
abbrev pub is_asked : Data → Bool
is_asked d = is_some (method_of d)

-- those among these messages, in their order
abbrev pub requests_in : List Data → List Data
requests_in = filter is_asked

-- what is to be submitted for a request: it, and identifiers for its inserts
pub record Pending : Type 0 where
  pub message : Data
  pub fresh : List Uuid

abbrev pub pending_code : Coded Pending
pending_code = code_by (Data × List Uuid) (coded× data_code (coded_list uuid_code)) (λ p. (p.message, p.fresh)) (λ q. record { message = q.0; fresh = q.1 }) (λ _. refl)

-- the events of the machine that these are, at a moment
abbrev pub events_at : ℕ → ℕ → List Pending → List Event
events_at session now = map (λ p. submitted session p.message p.fresh now)

-- the most bytes of a message, all bytes that were read, what was submitted of them, and what is still to be; and whether the rest of the stream was given up
pub record Inbox : Type 0 where
  pub most : ℕ
  pub bytes : List ℕ
  pub submitted : List Data
  pub pending : List Pending
  pub is_stopped : Bool

abbrev pub inbox_code : Coded Inbox
inbox_code = code_by (ℕ × (List ℕ × (List Data × (List Pending × Bool)))) (coded× coded_ℕ (coded× (coded_list coded_ℕ) (coded× (coded_list data_code) (coded× (coded_list pending_code) coded_bool))))
    (λ i. (i.most, (i.bytes, (i.submitted, (i.pending, i.is_stopped))))) (λ p. record { most = p.0; bytes = p.1.0; submitted = p.1.1.0; pending = p.1.1.1.0; is_stopped = p.1.1.1.1 }) (λ _. refl)

-- the messages of what is pending
abbrev pub messages_of : List Pending → List Data
messages_of = map (λ p. p.message)

-- The requests of the bytes that were read are those that were submitted, then those that are pending, each once and in the order of the stream. Some may be left out after them only where the rest was given up.
abbrev pub IsInOrder : Inbox → Type 0
IsInOrder i = (rest : List Data) × (requests_in (messages i.most i.bytes).0 ≡ i.submitted ++ messages_of i.pending ++ rest) × (i.is_stopped ≡ false → rest ≡ [])

-- the piece was read after the bytes before it, unless the rest was given up
abbrev pub TakesIn : List ℕ → Inbox → Inbox → Type 0
TakesIn piece old new = (new.most ≡ old.most) × (new.submitted ≡ old.submitted) × (new.is_stopped ≡ old.is_stopped) × (old.is_stopped ≡ false → new.bytes ≡ old.bytes ++ piece)

-- the rest is given up, and nothing is pending
abbrev pub Stops : Inbox → Inbox → Type 0
Stops old new = (new.most ≡ old.most) × (new.submitted ≡ old.submitted) × (new.pending ≡ []) × (new.is_stopped ≡ true)

-- the first of what is pending were submitted, in order, and the others are left
abbrev pub MovesOn : Inbox → Inbox → Type 0
MovesOn old new = (front : List Pending) × (old.pending ≡ front ++ new.pending) × (new ≡ record old { submitted = old.submitted ++ messages_of front; pending = new.pending })

-- these were submitted at a moment for the session, up to what is left, of which the first is refused for the reason of the result; then come rounds of the session alone
abbrev pub SubmitsFrom : {A : Type 0} → Result A EventRefusal → ℕ → ℕ → Inbox → Inbox → Guarded → Guarded → Type 0
SubmitsFrom result session now old new before after = Submits result session (events_at session now old.pending) (events_at session now new.pending) before after

-- of what was pending this, the first, went on elsewhere
abbrev pub HandsOn : Pending → Inbox → Inbox → Type 0
HandsOn p old new = (old.pending ≡ p ∷ new.pending) × (new ≡ record old { submitted = old.submitted ++ p.message ∷ []; pending = new.pending })

-- of the first `most` that were pending these were submitted, up to what is left of them, as `SubmitsFrom` says; the others stay
abbrev pub SubmitsRun : {A : Type 0} → Result A EventRefusal → ℕ → ℕ → ℕ → Inbox → Inbox → Guarded → Guarded → Type 0
SubmitsRun result session now most old new before after =
    (left : List Pending) × (new.pending ≡ left ++ drop most old.pending) × Submits result session (events_at session now (take most old.pending)) (events_at session now left) before after
