-- A reader or a writer, and whether a call of it failed.
use Rattle.std.specs.Prelude.{ℕ, List, [], ◌∷◌, ◌==◌, Bool, true, false, Result, Ok, Err}
use Rattle.odb_script.specs.declared.latch.FailureLatch.{FailureLatch}

-- the reader or the writer
abbrev pub inner_of : {T : Type 0} → FailureLatch T → T
inner_of w = w.inner

-- a call of it failed
abbrev pub has_failed : {T : Type 0} → FailureLatch T → Bool
has_failed w = w.has_failed

-- a write of some bytes that took none of them, or failed
abbrev pub took_none : {E : Type 0} → Result ℕ E → List ℕ → Bool
took_none (Err e) bytes = true
took_none (Ok n) [] = false
took_none (Ok n) (b ∷ bytes) = n == 0
