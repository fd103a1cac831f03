use Rattle.std.proofs.Common.{◌≡◌, ◌≤◌, length, map, take}
use Rattle.std.specs.Prelude.{vec_capacity, vec_len}
use Rattle.odb_sessions.specs.Composed.{composition}
use Rattle.odb_sessions.specs.Represented.Composed.{bytes_in}
use Rattle.odb_par.proofs.dealing.in_order.Given as goal

abbrev pub invariant-loop-place : goal.invariant-loop-place
invariant-loop-place l = (map bytes_in l.bodies.items ≡ take l.place (map composition l.jobs)) × (vec_len l.bodies ≤ l.place) × (length l.jobs ≤ vec_capacity l.bodies)
