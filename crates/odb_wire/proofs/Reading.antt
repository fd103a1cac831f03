-- The message that a text is, from what a reader of JSON says.
use Rattle.std.proofs.Common.{◌≡◌, ℕ, true, false, if◌then◌else◌, List, Some, None, option_and_then, refl, ap}
use Rattle.std.specs.Str.{IsUtf8, is_utf8}
use Rattle.std.proofs.lemmas.Str.{is_utf8-from_IsUtf8, IsUtf8-from_is_utf8}
use Rattle.serde_json.specs.Data.{Data}
use Rattle.serde_json.specs.Read.{read}
use Rattle.odb_wire.specs.Message.{is_message}
use Rattle.odb_wire.specs.Stream.{message_of}

-- text that was read
pub message_of-read : (text : List ℕ) (d : Data) → IsUtf8 text → read text ≡ Some d → message_of text ≡ (if is_message d then Some d else None)
message_of-read text d utf8 is = rw (is_utf8-from_IsUtf8 text utf8, is) refl

-- text that was refused
pub message_of-refused : (text : List ℕ) → (IsUtf8 text → read text ≡ None) → message_of text ≡ None
message_of-refused text refused =
    elim (is_utf8 text) as (λ b. is_utf8 text ≡ b → (if b then option_and_then (λ d. if is_message d then Some d else None) (read text) else None) ≡ None) [
      | true ↦ λ is. ap (λ o. option_and_then (λ d. if is_message d then Some d else None) o) (refused (IsUtf8-from_is_utf8 text is))
      | false ↦ λ _. refl
    ] refl
