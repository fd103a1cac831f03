use Rattle.std.proofs.Common.{◌≡◌, filter_map, take}
use Rattle.odb_integrity.specs.Steps.{pruning}
use Rattle.odb_integrity.proofs.pruning.prunings.Given as goal

abbrev pub invariant-loop-row : goal.invariant-loop-row
invariant-loop-row l = l.changes.items ≡ filter_map (pruning l.schema l.draft.now) (take l.row-index l.rows)
