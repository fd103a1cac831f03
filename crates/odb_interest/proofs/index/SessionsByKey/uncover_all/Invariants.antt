use Rattle.std.proofs.Common.{take}
use Rattle.odb_interest.specs.Represented.SessionsByKey.{UncoversAll}
use Rattle.odb_interest.proofs.index.SessionsByKey.uncover_all.Given as goal

abbrev pub invariant-loop-asked : goal.invariant-loop-asked
invariant-loop-asked l = UncoversAll l.fn.self l.self l.session (take l.asked-index l.filters)
