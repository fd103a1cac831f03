use Rattle.std.proofs.Common.{◌≡◌, map}
use Rattle.odb_integrity.proofs.rows.in_order.Given as goal

abbrev pub invariant-loop-row : goal.invariant-loop-row
invariant-loop-row l = l.rows.items ≡ map (λ row. row.now) l.yielded
