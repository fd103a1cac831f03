use Rattle.std.proofs.Common.{◌≡◌, map, take}
use Rattle.odb_cond.specs.Represented.Filter.{member_of}
use Rattle.odb_cond.proofs.filter.are_same.Given as goal

abbrev pub invariant-loop-place : goal.invariant-loop-place
invariant-loop-place l = map member_of (take l.place l.members) ≡ map member_of (take l.place l.others)
