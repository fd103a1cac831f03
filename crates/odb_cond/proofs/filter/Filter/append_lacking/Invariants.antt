use Rattle.std.proofs.Common.{take}
use Rattle.odb_cond.proofs.Lacking.{GainsFront}
use Rattle.odb_cond.proofs.filter.Filter.append_lacking.Given as goal

abbrev pub invariant-loop-member : goal.invariant-loop-member
invariant-loop-member l = GainsFront (take l.member-index l.member-items) l.fn.other l.initial.list.items l.list.items
