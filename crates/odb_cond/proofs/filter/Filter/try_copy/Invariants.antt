use Rattle.std.proofs.Common.{◌≡◌, map, take}
use Rattle.odb_cond.specs.Represented.Filter.{member_of}
use Rattle.odb_cond.proofs.filter.Filter.try_copy.Given as goal

abbrev pub invariant-loop-member : goal.invariant-loop-member
invariant-loop-member l = map member_of l.members.items ≡ map member_of (take l.member-index l.member-items)
