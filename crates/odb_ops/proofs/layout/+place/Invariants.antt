use Rattle.std.proofs.Common.{length}
use Rattle.odb_ops.proofs.layout.+place.Given as goal

abbrev pub decreases-place : goal.decreases-place
decreases-place l = length l.ordered.now
