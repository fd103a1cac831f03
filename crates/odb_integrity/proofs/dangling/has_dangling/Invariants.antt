use Rattle.std.proofs.Common.{◌≡◌, false, take}
use Rattle.std.specs.List.{list_any}
use Rattle.odb_integrity.specs.Settlement.{at_row, dangles}
use Rattle.odb_integrity.proofs.dangling.has_dangling.Given as goal

abbrev pub invariant-loop-row : goal.invariant-loop-row
invariant-loop-row l = list_any (at_row (dangles l.schema l.draft.now) l.draft.now) (take l.row-index l.rows) ≡ false
