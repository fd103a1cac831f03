use Rattle.odb_hub.specs.Outbox.{Takes}
use Rattle.odb_hub.proofs.outbox.Outbox.fill.Given as goal

abbrev pub invariant-loop : goal.invariant-loop
invariant-loop l = Takes l.fn.self l.self
