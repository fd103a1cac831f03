use Rattle.std.proofs.Common.{◌≡◌, replicate}
use Rattle.odb_chain.specs.Represented.Chain.{nothing_kept}
use Rattle.odb_chain.proofs.chains.Chains.new.Given as goal

abbrev pub invariant-loop : goal.invariant-loop
invariant-loop l = l.chains.items ≡ replicate l.counter nothing_kept
