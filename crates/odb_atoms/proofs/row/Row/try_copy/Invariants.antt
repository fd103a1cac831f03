use Rattle.std.proofs.Common.{◌≡◌, take}
use Rattle.odb_atoms.proofs.row.Row.try_copy.Given as goal

abbrev pub invariant-loop-value : goal.invariant-loop-value
invariant-loop-value l = l.columns.items ≡ take l.value-index l.value-items
