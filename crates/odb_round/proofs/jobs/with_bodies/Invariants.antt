use Rattle.std.proofs.Common.{◌≡◌, ◌+◌, ◌++◌, ◌≤◌, List, length, map}
use Rattle.std.specs.Prelude.{vec_capacity, vec_len}
use Rattle.odb_monitor.specs.Job.{Job}
use Rattle.odb_sessions.specs.Composed.{composition}
use Rattle.odb_sessions.specs.Represented.Composed.{bytes_in}
use Rattle.odb_round.specs.Represented.Taking.{pending_by, pending_of}
use Rattle.odb_round.proofs.jobs.with_bodies.Given as goal

abbrev pub invariant-loop-taking : goal.invariant-loop-taking
invariant-loop-taking l =
    ((js : List Job) → map bytes_in l.bodies ≡ map composition js
    → map pending_of l.ready.items ++ map (pending_by js) l.taking-iterator.rest.items ≡ map (pending_by js) l.initial.taking-iterator.rest.items)
    × (vec_len l.ready + length l.taking-iterator.rest.items ≤ vec_capacity l.ready)
