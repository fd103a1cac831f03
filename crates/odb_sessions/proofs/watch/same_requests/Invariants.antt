use Rattle.std.proofs.Common.{◌≡◌, take}
use Rattle.odb_sessions.specs.Composed.{asked_of}
use Rattle.odb_sessions.proofs.watch.same_requests.Given as goal

abbrev pub invariant-loop-place : goal.invariant-loop-place
invariant-loop-place l = asked_of (take l.place l.tables) ≡ asked_of (take l.place l.others)
