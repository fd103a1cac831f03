use Rattle.std.proofs.Common.{◌≡◌, zip}
use Rattle.std.specs.Iterator.Adapters.{zip_first, zip_second}
use Rattle.std.specs.List.{list_any}
use Rattle.std.specs.Slice.Iter.{iter_rest}
use Rattle.odb_integrity.specs.Settlement.{is_short}
use Rattle.odb_integrity.proofs.constraints.is_one_short.Given as goal

abbrev pub invariant-loop-column : goal.invariant-loop-column
invariant-loop-column l = list_any is_short (zip (iter_rest (zip_first l.column-iterator)) (iter_rest (zip_second l.column-iterator))) ≡ list_any is_short (zip l.fn.columns l.fn.values)
