use Rattle.std.proofs.Common.{◌≡◌, ◌++◌, drop, flat_map}
use Rattle.std.specs.List.{enumerate_from}
use Rattle.odb_integrity.specs.Represented.Reference.{column_references, references_of}
use Rattle.odb_integrity.proofs.referrers.references_of.Given as goal

abbrev pub invariant-loop-place : goal.invariant-loop-place
invariant-loop-place l = l.references.items ++ flat_map (λ e. flat_map (λ f. column_references l.schema e.0 f.0 f.1.type) (enumerate_from 0 e.1.columns)) (enumerate_from l.place (drop l.place l.table-items)) ≡ references_of l.schema
