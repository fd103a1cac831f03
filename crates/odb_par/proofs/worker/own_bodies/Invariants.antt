use Rattle.std.proofs.Common.{◌-◌, ◌++◌, ℕ, List, Option, length, map}
use Rattle.odb_par.specs.Shares.{IsShare}
use Rattle.odb_sessions.specs.Composed.{composition}
use Rattle.odb_sessions.specs.Represented.Composed.{bytes_in}
use Rattle.odb_par.proofs.worker.own_bodies.Given as goal

abbrev pub decreases-loop-place : goal.decreases-loop-place
decreases-loop-place g l = length l.jobs - l.place

abbrev pub invariant-loop-place : goal.invariant-loop-place
invariant-loop-place g l = (rest : List (Option (List ℕ))) → IsShare l.place l.workers (map composition l.jobs) rest → IsShare l.first l.workers (map composition l.jobs) (map bytes_in l.bodies.items ++ rest)
