use Rattle.std.proofs.Common.{◌≡◌, zip}
use Rattle.std.specs.List.{list_any}
use Rattle.std.specs.Iterator.Adapters.{zip_first, zip_second}
use Rattle.std.specs.Slice.Iter.{iter_rest}
use Rattle.odb_integrity.specs.Settlement.{same_row, strong_of_row, strong_of_value}
use Rattle.odb_integrity.proofs.references.row_refers.Given as goal

abbrev pub invariant-loop-column : goal.invariant-loop-column
invariant-loop-column l = list_any (λ e. list_any (same_row l.fn.referent) (strong_of_value l.schema e.0.type e.1)) (zip (iter_rest (zip_first l.column-iterator)) (iter_rest (zip_second l.column-iterator))) ≡ list_any (same_row l.fn.referent) (strong_of_row l.schema l.fn.id l.row)
