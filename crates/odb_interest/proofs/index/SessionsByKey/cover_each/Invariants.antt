use Rattle.std.proofs.Common.{take}
use Rattle.odb_interest.specs.Represented.SessionsByKey.{Covers}
use Rattle.odb_interest.specs.Represented.Key.{among}
use Rattle.odb_interest.proofs.index.SessionsByKey.cover_each.Given as goal

abbrev pub invariant-loop-member : goal.invariant-loop-member
invariant-loop-member l = Covers l.fn.self l.self l.table (among (take l.member-index l.members)) l.session
