use Rattle.std.proofs.Common.{length}
use Rattle.odb_ops.proofs.merging.+inserted.Given as goal

abbrev pub decreases-inserted : goal.decreases-inserted
decreases-inserted l = length l.mutations.now
