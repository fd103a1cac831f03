use Rattle.std.proofs.Common.{◌≡◌, map, take}
use Rattle.odb_cond.specs.Represented.Clause.{selector_of}
use Rattle.odb_sessions.proofs.alike.same_columns.Given as goal

abbrev pub invariant-loop-place : goal.invariant-loop-place
invariant-loop-place l = map selector_of (take l.place l.columns) ≡ map selector_of (take l.place l.others)
