use Rattle.std.proofs.Common.{◌≡◌, zip}
use Rattle.std.specs.List.{list_any}
use Rattle.std.specs.Iterator.Adapters.{zip_first, zip_second}
use Rattle.std.specs.Slice.Iter.{iter_rest}
use Rattle.odb_integrity.specs.Steps.{has_stale, row_has_stale}
use Rattle.odb_integrity.proofs.pruning.row_has_stale.Given as goal

abbrev pub invariant-loop-column : goal.invariant-loop-column
invariant-loop-column l = list_any (λ e. has_stale l.schema l.draft.now e.0.type e.1) (zip (iter_rest (zip_first l.column-iterator)) (iter_rest (zip_second l.column-iterator))) ≡ row_has_stale l.schema l.draft.now l.fn.id l.row
