use Rattle.std.proofs.Common.{◌≡◌, map}
use Rattle.odb_tables.proofs.pairs.under.Given as goal

abbrev pub invariant-loop-pair : goal.invariant-loop-pair
invariant-loop-pair l = l.keys.items ≡ map (λ p. p.now.1) l.yielded
