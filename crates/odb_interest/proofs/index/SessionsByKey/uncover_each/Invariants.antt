use Rattle.std.proofs.Common.{take}
use Rattle.odb_interest.specs.Represented.SessionsByKey.{Uncovers}
use Rattle.odb_interest.specs.Represented.Key.{among}
use Rattle.odb_interest.proofs.index.SessionsByKey.uncover_each.Given as goal

abbrev pub invariant-loop-member : goal.invariant-loop-member
invariant-loop-member l = Uncovers l.fn.self l.self l.table (among (take l.member-index l.members)) l.session l.others
