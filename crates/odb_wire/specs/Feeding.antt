-- A stream that comes in pieces: what a piece adds to the bytes taken in before, and to their messages. [P 7.1]
use Rattle.std.specs.Prelude.{◌≡◌, ℕ, List, [], ◌++◌, Option, Some, None, Result, Ok, Err}
use Rattle.serde_json.specs.Data.{Data}
use Rattle.odb_wire.specs.Stream.{Ending, goes_on, fault_too_long, fault_bad}
use Rattle.odb_wire.specs.Stream as stream
use Rattle.odb_wire.specs.declared.fault.WireFault.{WireFault}
use Rattle.odb_wire.specs.declared.fault.WireFault.TheVariants.{TooLong, BadStream}
use Rattle.odb_wire.specs.declared.framer.Fed.{Fed}

-- the fault that a stream stands at, as it is answered
abbrev pub fault_of : Ending → Option WireFault
fault_of goes_on = None
fault_of fault_too_long = Some TooLong
fault_of fault_bad = Some BadStream

-- the piece comes after the bytes of a stream whose messages have so many bytes at most, and with it these messages are whole that weren't before
pub record Adds (most : ℕ) (old piece new : List ℕ) (found : List Data) : Type 0 where
  pub bytes : new ≡ old ++ piece
  pub messages : (stream.messages most new).0 ≡ (stream.messages most old).0 ++ found

-- no message comes, and the fault again
abbrev pub StaysAt : {E : Type 0} → Result Fed E → WireFault → Type 0
StaysAt (Ok fed) f = (fed.messages.items ≡ []) × (fed.fault ≡ Some f)
StaysAt (Err e) f = ⊥
