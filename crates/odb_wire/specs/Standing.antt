-- What the code keeps of a stream between two pieces, and what it stands for. `most` is the most bytes of one message.
use Rattle.std.specs.Prelude.{◌≡◌, ℕ, ◌==◌, ◌<◌, ◌≤◌, length, take, slice_index, IsTrue, List, [], ◌∷◌, ◌++◌}
use Rattle.serde_json.specs.Data.{Data}
use Rattle.odb_wire.specs.Stream.{outside, front_of, whole, too_long, bad, Ending, fault_too_long, fault_bad, messages}
use Rattle.odb_wire.specs.Scanning.{state_of, GoesOn}
use Rattle.odb_wire.specs.declared.scan.Scan.{Scan}
use Rattle.odb_wire.specs.declared.fault.WireFault.{WireFault}
use Rattle.odb_wire.specs.declared.fault.WireFault.TheVariants as fault
use Rattle.odb_wire.specs.declared.split.StreamState.{StreamState}
use Rattle.odb_wire.specs.declared.split.StreamState.TheVariants as state
use Rattle.odb_wire.specs.declared.split.Front.{Front}
use Rattle.odb_wire.specs.declared.split.Front.TheVariants as front

-- messages, and after them those that come of what is left
abbrev pub prepended : List Data → List Data × Ending → List Data × Ending
prepended found rest = (found ++ rest.0, rest.1)

abbrev pub ending_of : WireFault → Ending
ending_of fault.TooLong = fault_too_long
ending_of fault.BadStream = fault_bad

-- the text of an object that goes on, and a scan that stands after it
pub record IsUnfinished (most : ℕ) (text : List ℕ) (scan : Scan) : Type 0 where
  pub short : length text < most
  pub brace : IsTrue (slice_index text 0 == 123)
  pub depth : scan.depth ≤ length text
  pub further : GoesOn outside 0 text (state_of scan.state) scan.depth

-- such a text, or nothing
abbrev pub IsRest : ℕ → List ℕ → Scan → Type 0
IsRest most [] scan = Unit {0}
IsRest most (c ∷ cs) scan = IsUnfinished most (c ∷ cs) scan

abbrev pub IsStanding : ℕ → StreamState → Type 0
IsStanding most (state.Going rest) = IsRest most rest.text.items rest.scan
IsStanding most (state.Stopped f) = Unit {0}

-- the messages that come, once more bytes do
abbrev pub messages_after : ℕ → StreamState → List ℕ → List Data × Ending
messages_after most (state.Going rest) more = messages most (rest.text.items ++ more)
messages_after most (state.Stopped f) more = ([], ending_of f)

-- after the messages given, those of the bytes were found, and the stream stands there
pub record ReadsOn (most : ℕ) (given : List Data) (bytes : List ℕ) (found : List Data) (new : StreamState) : Type 0 where
  pub stands : IsStanding most new
  pub further : (more : List ℕ) → prepended given (messages most (bytes ++ more)) ≡ prepended found (messages_after most new more)

-- the same of a state and a piece
pub record TakesIn (most : ℕ) (old : StreamState) (piece : List ℕ) (found : List Data) (new : StreamState) : Type 0 where
  pub stands : IsStanding most new
  pub further : (more : List ℕ) → messages_after most old (piece ++ more) ≡ prepended found (messages_after most new more)

-- a state that stands for the same
pub record IsAsBefore (most : ℕ) (old new : StreamState) : Type 0 where
  pub stands : IsStanding most new
  pub further : (more : List ℕ) → messages_after most new more ≡ messages_after most old more

pub record IsWhole (most : ℕ) (bytes : List ℕ) (n : ℕ) : Type 0 where
  pub within : n ≤ length bytes
  pub text : front_of most bytes ≡ whole (take n bytes)

-- what stands at the front of the bytes
abbrev pub IsFront : ℕ → List ℕ → Front → Type 0
IsFront most bytes (front.Whole n) = IsWhole most bytes n
IsFront most bytes (front.Incomplete scan) = IsUnfinished most bytes scan
IsFront most bytes front.TooLong = front_of most bytes ≡ too_long
IsFront most bytes front.Bad = front_of most bytes ≡ bad

-- the state is that of a stream of which these bytes came
pub record Follows (most : ℕ) (bytes : List ℕ) (now : StreamState) : Type 0 where
  pub stands : IsStanding most now
  pub further : (more : List ℕ) → messages most (bytes ++ more) ≡ prepended (messages most bytes).0 (messages_after most now more)
