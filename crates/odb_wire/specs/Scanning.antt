-- What the byte machine knows of an object's text after the bytes that it has read.
use Rattle.std.specs.Prelude.{◌≡◌, ℕ, ◌<◌, ◌≤◌, length, take, slice_index, ◌++◌, List, Some, option_map}
use Rattle.odb_wire.specs.Stream as stream
use Rattle.odb_wire.specs.Stream.{closed_at, inside, state_after}
use Rattle.odb_wire.specs.declared.scan.ScanState.{ScanState}
use Rattle.odb_wire.specs.declared.scan.ScanState.TheVariants.{Outside, Inside, Escaped}

abbrev pub state_of : ScanState → stream.ScanState
state_of Outside = stream.outside
state_of Inside = stream.inside
state_of Escaped = stream.escaped

-- the text ends after the first n of the bytes
pub record IsEnd (state : stream.ScanState) (open_braces : ℕ) (bytes : List ℕ) (n : ℕ) : Type 0 where
  pub some : 0 < n
  pub within : n ≤ length bytes
  pub closed : closed_at state open_braces bytes ≡ Some (take n bytes)

-- it doesn't end in the bytes, and stands after them in new_state, with so many braces open
pub record GoesOn (state : stream.ScanState) (open_braces : ℕ) (bytes : List ℕ) (new_state : stream.ScanState) (new_open : ℕ) : Type 0 where
  pub further : (more : List ℕ) → closed_at state open_braces (bytes ++ more) ≡ option_map (λ t. bytes ++ t) (closed_at new_state new_open more)

-- what stands in the state and with so many braces open before the bytes from one place to another stands so after them
abbrev pub PassesOver : stream.ScanState → List ℕ → ℕ → ℕ → Type 0
PassesOver state bytes from to =
    (p : stream.ScanState) (n k : ℕ) → 0 < k → GoesOn p n (take from bytes) state k → GoesOn p n (take to bytes) state k

-- none of the first n bytes leads out of a string
abbrev pub StaysInside : List ℕ → ℕ → Type 0
StaysInside bytes n = (i : ℕ) → i < n → state_after inside (slice_index bytes i) ≡ inside
