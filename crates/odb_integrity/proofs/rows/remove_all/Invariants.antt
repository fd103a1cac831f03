use Rattle.std.proofs.Common.{◌≡◌, length, take}
use Rattle.odb_integrity.specs.Steps.{without_rows}
use Rattle.odb_integrity.proofs.rows.remove_all.Given as goal

abbrev pub invariant-loop-row : goal.invariant-loop-row
invariant-loop-row l = record {
  removed : l.draft.now ≡ without_rows (take l.row-index l.rows) l.fn.draft.now;
  base : l.draft.old ≡ l.fn.draft.old;
  sized : length l.draft.old ≡ length l.fn.draft.now;
}
