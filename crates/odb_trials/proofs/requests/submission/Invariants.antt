use Rattle.std.proofs.Common.{◌≡◌, length}
use Rattle.odb_trials.proofs.requests.submission.Given as goal

abbrev pub invariant-loop-made : goal.invariant-loop-made
invariant-loop-made l = length l.fresh.items ≡ l.made
