use Rattle.std.proofs.Common.{◌≡◌, ◌≤◌, length, map, take}
use Rattle.std.specs.Prelude.{vec_capacity, vec_len}
use Rattle.odb_sessions.specs.Composed.{composition}
use Rattle.odb_sessions.specs.Represented.Composed.{bytes_in}
use Rattle.odb_round.proofs.jobs.compose_all.Given as goal

abbrev pub invariant-loop-job : goal.invariant-loop-job
invariant-loop-job l = (map bytes_in l.bodies.items ≡ map composition (take l.job-index l.jobs)) × (vec_len l.bodies ≤ l.job-index) × (length l.jobs ≤ vec_capacity l.bodies)
