use Rattle.std.proofs.Common.{◌≡◌, length}
use Rattle.odb_trials.proofs.refusals.made.with_identifiers.Given as goal

abbrev pub invariant-loop-made : goal.invariant-loop-made
invariant-loop-made l = length l.fresh.items ≡ l.made
