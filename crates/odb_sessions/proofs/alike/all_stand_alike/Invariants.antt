use Rattle.std.proofs.Common.{◌≡◌, map, take}
use Rattle.odb_sessions.specs.Represented.Alike.{bare_in}
use Rattle.odb_sessions.proofs.alike.all_stand_alike.Given as goal

abbrev pub invariant-loop-place : goal.invariant-loop-place
invariant-loop-place l = map (bare_in l.way) (take l.place l.tables) ≡ map (bare_in l.other_way) (take l.place l.others)
