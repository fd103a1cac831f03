use Rattle.std.proofs.Common.{take}
use Rattle.odb_interest.specs.Represented.SessionsByKey.{UncoversFound}
use Rattle.odb_interest.specs.Represented.Key.{among}
use Rattle.odb_interest.proofs.index.SessionsByKey.uncover_found.Given as goal

abbrev pub invariant-loop-member : goal.invariant-loop-member
invariant-loop-member l = UncoversFound l.fn.self l.self l.table (among (take l.member-index l.members)) l.session l.fn.found
