use Rattle.std.proofs.Common.{◌≡◌, map, take}
use Rattle.odb_sessions.specs.Composed.{asked_of}
use Rattle.odb_sessions.specs.Represented.Alike.{stand_in}
use Rattle.odb_sessions.specs.declared.way.Way.TheVariants as way
use Rattle.odb_sessions.proofs.lacking.all_stand_as.Given as goal

abbrev pub invariant-loop-place : goal.invariant-loop-place
invariant-loop-place l = asked_of l.tables ≡ asked_of l.others → map (stand_in way.Asked) (take l.place l.tables) ≡ map (stand_in way.Asked) (take l.place l.others)
