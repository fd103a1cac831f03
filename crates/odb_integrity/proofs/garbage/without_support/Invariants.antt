use Rattle.std.proofs.Common.{◌≡◌, filter, not, take}
use Rattle.odb_integrity.specs.Represented.RowId.{supports}
use Rattle.odb_integrity.proofs.garbage.without_support.Given as goal

abbrev pub invariant-loop-row : goal.invariant-loop-row
invariant-loop-row l = l.others.items ≡ filter (λ x. not (supports l.schema l.referred x)) (take l.row-index l.rows)
