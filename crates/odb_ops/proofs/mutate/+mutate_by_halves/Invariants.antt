use Rattle.std.proofs.Common.{length}
use Rattle.odb_ops.proofs.mutate.+mutate_by_halves.Given as goal

abbrev pub decreases-mutate_by_halves : goal.decreases-mutate_by_halves
decreases-mutate_by_halves l = length l.mutations.now
