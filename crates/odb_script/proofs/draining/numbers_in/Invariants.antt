use Rattle.std.proofs.Common.{◌≡◌, map}
use Rattle.odb_script.proofs.draining.numbers_in.Given as goal

abbrev pub invariant-loop-number : goal.invariant-loop-number
invariant-loop-number l = l.numbers.items ≡ map (λ k. k.now) l.yielded
