use Rattle.std.proofs.Common.{take}
use Rattle.odb_interest.specs.Represented.SessionsByKey.{UncoversAt}
use Rattle.odb_interest.proofs.index.SessionsByKey.uncover_table.Given as goal

abbrev pub invariant-loop-asked : goal.invariant-loop-asked
invariant-loop-asked l = UncoversAt l.fn.self l.self l.table l.session (take l.asked-index l.filters)
