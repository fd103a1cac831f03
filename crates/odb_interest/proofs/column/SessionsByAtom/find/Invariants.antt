use Rattle.std.proofs.Common.{take}
use Rattle.odb_cond.specs.Represented.Clause.{selector_of}
use Rattle.odb_interest.specs.Represented.Found.{Grows, names_some}
use Rattle.odb_interest.proofs.column.SessionsByAtom.find.Given as goal

abbrev pub invariant-loop-row : goal.invariant-loop-row
invariant-loop-row l = Grows l.fn.found l.found (names_some l.self (selector_of l.column) (take l.row-index l.rows))
