-- What messages and bodies stand for.
use Rattle.std.specs.Prelude.{◌≡◌, ℕ, List, Option, Vec, option_map}
use Rattle.std.specs.declared.sync.Arc.{Arc}
use Rattle.serde_json.specs.Written.{compact_text}
use Rattle.odb_schema.specs.Json.{Data}
use Rattle.odb_sessions.specs.Composed.{whole_text}
use Rattle.odb_sessions.specs.declared.composing.Envelope.{Envelope}

-- it is a message of the job at this place, with this text by the table updates
abbrev pub IsFrame : Envelope → ℕ → (Data → List ℕ) → Type 0
IsFrame m n text = (m.place ≡ n) × ((d : Data) → whole_text m.before.items (compact_text d) m.after.items ≡ text d)

-- a body that may be shared
abbrev pub bytes_of : {Y Z : Type 0} → Arc (Vec ℕ Y) Z → List ℕ
bytes_of a = a.value.items

-- the same, if there is one
abbrev pub bytes_in : {Y Z : Type 0} → Option (Arc (Vec ℕ Y) Z) → Option (List ℕ)
bytes_in o = option_map bytes_of o
