use Rattle.std.proofs.Common.{◌≤◌, length}
use Rattle.odb_round.proofs.jobs.last_first.Given as goal

abbrev pub decreases-loop-place : goal.decreases-loop-place
decreases-loop-place l = l.place

abbrev pub invariant-loop-place : goal.invariant-loop-place
invariant-loop-place l = l.place ≤ length l.jobs
