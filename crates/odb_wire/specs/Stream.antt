-- Streams of JSON-RPC messages (RFC 7047, section 4; RFC 4627): blanks and objects. The whole messages that a stream has, and how it stands after them. [P 7.1, 14]
use Rattle.std.specs.Prelude.{ℕ, zero, suc, ◌+◌, ◌-◌, ◌==◌, nat_lt, length, take, drop, Bool, not, ◌||◌, if◌then◌else◌, List, [], ◌∷◌, Option, Some, None, option_map, option_and_then}
use Rattle.std.specs.Str.{is_utf8}
use Rattle.serde_json.specs.Data.{Data}
use Rattle.serde_json.specs.Read.{read}
use Rattle.odb_wire.specs.Message.{is_message}

-- space, tab, line feed, carriage return
abbrev pub is_blank : ℕ → Bool
is_blank c = (c == 32) || ((c == 9) || ((c == 10) || (c == 13)))

-- outside a string, inside one, or after a backslash inside one
pub data ScanState : Type 0 where
  outside inside escaped : ScanState

abbrev pub state_after : ScanState → ℕ → ScanState
state_after outside c = if c == 34 then inside else outside
state_after inside c = if c == 34 then outside else (if c == 92 then escaped else inside)
state_after escaped c = inside

-- how many braces stand open after a byte
abbrev pub open_after : ScanState → ℕ → ℕ → ℕ
open_after outside c n = if c == 123 then n + 1 else (if c == 125 then n - 1 else n)
open_after inside c n = n
open_after escaped c n = n

-- the bytes up to the first place where, outside strings, as many braces have closed as opened
abbrev pub closed_at : ScanState → ℕ → List ℕ → Option (List ℕ)
closed_at p n [] = None
closed_at p n (c ∷ cs) =
    if open_after p c n == 0 then Some (c ∷ []) else option_map (λ t. c ∷ t) (closed_at (state_after p c) (open_after p c n) cs)

-- the most bytes of one message where nobody asks for another limit
unfoldable pub max_message : ℕ
max_message = 16777216

-- what stands at the front of a stream: no whole message yet, a fault, or the text of an object
pub data Front : Type 0 where
  incomplete : Front
  too_long : Front
  bad : Front
  whole : List ℕ → Front

abbrev pub of_text : Option (List ℕ) → Bool → Front
of_text (Some t) full = whole t
of_text None full = if full then too_long else incomplete

-- at the first byte that isn't blank, where a message has so many bytes at most
abbrev pub front_of : ℕ → List ℕ → Front
front_of most [] = incomplete
front_of most (c ∷ cs) =
    if c == 123 then of_text (closed_at outside 0 (take most (c ∷ cs))) (not (nat_lt (length (c ∷ cs)) most)) else bad

abbrev pub skip_blanks : List ℕ → List ℕ
skip_blanks [] = []
skip_blanks (c ∷ cs) = if is_blank c then skip_blanks cs else c ∷ cs

-- the message that an object's text is
abbrev pub message_of : List ℕ → Option Data
message_of t = if is_utf8 t then option_and_then (λ d. if is_message d then Some d else None) (read t) else None

-- how a stream stands after its whole messages: it may go on, or it is at a fault
pub data Ending : Type 0 where
  goes_on : Ending
  fault_too_long : Ending
  fault_bad : Ending

-- the whole messages at the front, each of so many bytes at most, and n of them at most
abbrev pub messages_in : ℕ → ℕ → List ℕ → List Data × Ending
messages_in most zero s = ([], goes_on)
messages_in most (suc n) s =
    elim (front_of most (skip_blanks s)) [
      | incomplete ↦ ([], goes_on)
      | too_long ↦ ([], fault_too_long)
      | bad ↦ ([], fault_bad)
      | whole t ↦ elim (message_of t) [
        | None ↦ ([], fault_bad)
        | Some d ↦ (let rest = messages_in most n (drop (length t) (skip_blanks s)) in (d ∷ rest.0, rest.1))
      ]
    ]

-- those of a stream whose messages have so many bytes at most: each takes a byte or more
abbrev pub messages : ℕ → List ℕ → List Data × Ending
messages most s = messages_in most (suc (length s)) s
