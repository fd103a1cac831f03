use Rattle.std.proofs.Common.{◌≡◌, ◌++◌, drop, flat_map}
use Rattle.std.specs.List.{enumerate_from}
use Rattle.odb_integrity.specs.Represented.Reference.{column_references}
use Rattle.odb_integrity.proofs.referrers.append_table.Given as goal

abbrev pub invariant-loop-place : goal.invariant-loop-place
invariant-loop-place l = l.references.items ++ flat_map (λ f. column_references l.schema l.id f.0 f.1.type) (enumerate_from l.place (drop l.place l.column-items)) ≡ l.fn.references.items ++ flat_map (λ f. column_references l.schema l.id f.0 f.1.type) (enumerate_from 0 l.fn.table.columns)
