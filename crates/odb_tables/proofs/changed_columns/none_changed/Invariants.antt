use Rattle.std.proofs.Common.{◌≡◌, length}
use Rattle.odb_tables.proofs.changed_columns.none_changed.Given as goal

abbrev pub invariant-loop : goal.invariant-loop
invariant-loop l = length l.changed.items ≡ l.counter
