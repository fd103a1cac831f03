use Rattle.std.proofs.Common.{◌≡◌, replicate}
use Rattle.odb_atoms.specs.FinMap as finite
use Rattle.odb_tables.proofs.database.without_rows.Given as goal

abbrev pub invariant-loop : goal.invariant-loop
invariant-loop l = l.list.items ≡ replicate l.counter finite.empty
