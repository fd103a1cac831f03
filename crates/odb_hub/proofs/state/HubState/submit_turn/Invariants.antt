use Rattle.odb_hub.proofs.Batches.{IsTaken}
use Rattle.odb_hub.proofs.state.HubState.submit_turn.Given as goal

abbrev pub invariant-loop-taken : goal.invariant-loop-taken
invariant-loop-taken g l = IsTaken l.session l.now l.initial.batch.items l.batch.items l.fn.self l.self l.taken
