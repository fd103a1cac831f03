use Rattle.std.proofs.Common.{ℕ, List}
use Rattle.odb_hub.specs.Own.{TakesOwnRounds}
use Rattle.odb_hub.proofs.state.HubState.rounds_for.Given as goal

abbrev pub invariant-loop : goal.invariant-loop
invariant-loop g l = (counts : List ℕ) × TakesOwnRounds l.session counts l.initial.self l.self
