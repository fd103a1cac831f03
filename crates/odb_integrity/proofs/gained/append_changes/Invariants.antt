use Rattle.std.proofs.Common.{◌≡◌, ◌++◌, drop, flat_map, slice_get}
use Rattle.std.specs.List.{enumerate_from}
use Rattle.odb_integrity.specs.Gained.{gained_at, gained_by_row}
use Rattle.odb_integrity.proofs.gained.append_changes.Given as goal

abbrev pub invariant-loop-place : goal.invariant-loop-place
invariant-loop-place l = record {
  lost : l.lost.items ++ flat_map (λ e. gained_at l.schema e.1.type (slice_get l.now.columns e.0) (slice_get l.before.columns e.0)) (enumerate_from l.place (drop l.place l.column-items)) ≡ l.fn.lost.items ++ gained_by_row l.schema l.fn.id l.now l.before;
  gained : l.gained.items ++ flat_map (λ e. gained_at l.schema e.1.type (slice_get l.before.columns e.0) (slice_get l.now.columns e.0)) (enumerate_from l.place (drop l.place l.column-items)) ≡ l.fn.gained.items ++ gained_by_row l.schema l.fn.id l.before l.now;
}
