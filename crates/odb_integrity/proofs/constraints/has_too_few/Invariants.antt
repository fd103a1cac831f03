use Rattle.std.proofs.Common.{◌≡◌, false, take}
use Rattle.std.specs.List.{list_any}
use Rattle.odb_integrity.specs.Settlement.{at_row, has_too_few}
use Rattle.odb_integrity.proofs.constraints.has_too_few.Given as goal

abbrev pub invariant-loop-row : goal.invariant-loop-row
invariant-loop-row l = list_any (at_row (has_too_few l.schema) l.draft.now) (take l.row-index l.rows) ≡ false
