use Rattle.std.proofs.Common.{◌≡◌, ◌++◌, flat_map, zip}
use Rattle.std.specs.Iterator.Adapters.{zip_first, zip_second}
use Rattle.std.specs.Slice.Iter.{iter_rest}
use Rattle.odb_integrity.specs.Settlement.{strong_of_row, strong_of_value}
use Rattle.odb_integrity.proofs.references.append_strong.Given as goal

abbrev pub invariant-loop-column : goal.invariant-loop-column
invariant-loop-column l = l.rows.items ++ flat_map (λ e. strong_of_value l.schema e.0.type e.1) (zip (iter_rest (zip_first l.column-iterator)) (iter_rest (zip_second l.column-iterator))) ≡ l.fn.rows.items ++ strong_of_row l.schema l.fn.id l.row
