use Rattle.std.proofs.Common.{◌≡◌, filter, take}
use Rattle.std.specs.List.{list_any}
use Rattle.odb_atoms.specs.Represented.ColType.{type_of}
use Rattle.odb_integrity.specs.Settlement.{same_row, strong_of_value}
use Rattle.odb_integrity.proofs.gained.those_of.Given as goal

abbrev pub invariant-loop-row : goal.invariant-loop-row
invariant-loop-row l = l.those.items ≡ filter (λ y. list_any (same_row y) (strong_of_value l.schema (type_of l.column) l.value)) (take l.row-index l.rows)
