use Rattle.std.proofs.Common.{ℕ}
use Rattle.odb_atoms.specs.FinMap.{get}
use Rattle.odb_hub.specs.Rings.{IsFlushedAt}
use Rattle.odb_hub.proofs.rings.Rings.flush.Given as goal

abbrev pub invariant-loop-session : goal.invariant-loop-session
invariant-loop-session l = (s : ℕ) → IsFlushedAt (get l.initial.self s) (get l.self s)
