use Rattle.std.proofs.Common.{take}
use Rattle.odb_interest.specs.Represented.SessionsByKey.{CoversLacking}
use Rattle.odb_interest.specs.Represented.Key.{among, has_key}
use Rattle.odb_interest.proofs.index.SessionsByKey.cover_lacking.Given as goal

abbrev pub invariant-loop-member : goal.invariant-loop-member
invariant-loop-member l = CoversLacking l.fn.self l.self l.table (among (take l.member-index l.members)) (λ k. has_key k l.fn.other) l.session
