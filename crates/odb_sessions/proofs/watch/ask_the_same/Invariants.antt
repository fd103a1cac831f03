use Rattle.std.proofs.Common.{◌≡◌, map, take}
use Rattle.odb_sessions.specs.Marked.{monitor_of}
use Rattle.odb_sessions.specs.Watches.{asking_of}
use Rattle.odb_sessions.proofs.watch.ask_the_same.Given as goal

abbrev pub invariant-loop-place : goal.invariant-loop-place
invariant-loop-place l = map asking_of (map monitor_of (take l.place l.monitors)) ≡ map asking_of (map monitor_of (take l.place l.others))
