use Rattle.std.proofs.Common.{◌≡◌, List, ℕ, ◌++◌}
use Rattle.std.specs.Io.KnownBytes.{Appends}
use Rattle.odb_script.proofs.latch.FailureLatchWrite.write_all.Given as goal

-- what was written so far, and what is left
abbrev pub invariant-loop : goal.invariant-loop
invariant-loop g l = (front : List ℕ) × (l.fn.buf ≡ front ++ l.rest) × Appends (g.W.Write.contents l.fn.self.inner) (g.W.Write.contents l.self.inner) front
