use Rattle.std.proofs.Common.{ℕ, List, [], ◌<◌}
use Rattle.std.specs.Prelude.{◌≢◌}
use Rattle.odb_hub.specs.Outbox.{Writes}
use Rattle.odb_hub.proofs.outbox.Outbox.write_to.Given as goal

-- each piece was some bytes
abbrev pub invariant-loop : goal.invariant-loop
invariant-loop g l = (front : List ℕ) × Writes front l.fn.self l.self (g.W.Write.contents l.fn.writer) (g.W.Write.contents l.writer) × (0 < l.counter → front ≢ [])
