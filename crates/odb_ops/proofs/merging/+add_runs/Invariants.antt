use Rattle.std.proofs.Common.{length}
use Rattle.odb_ops.proofs.merging.+add_runs.Given as goal

abbrev pub decreases-add_runs : goal.decreases-add_runs
decreases-add_runs l = length l.mutations.now
