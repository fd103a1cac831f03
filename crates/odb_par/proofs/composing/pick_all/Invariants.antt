use Rattle.std.proofs.Common.{◌≡◌, take}
use Rattle.odb_par.proofs.composing.pick_all.Given as goal

abbrev pub invariant-loop-job : goal.invariant-loop-job
invariant-loop-job g l = l.picked.items ≡ take l.job-index l.jobs
