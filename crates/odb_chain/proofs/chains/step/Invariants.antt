use Rattle.std.proofs.Common.{◌≡◌, ℕ, ◌<◌, ◌≤◌, length}
use Rattle.odb_chain.specs.Represented.Chain.{IsStepped, chain_at, moved_at}
use Rattle.odb_chain.proofs.chains.step.Given as goal

abbrev pub invariant-loop-place : goal.invariant-loop-place
invariant-loop-place l = record {
  long : length l.chains.items ≡ length l.initial.chains.items;
  done : (t : ℕ) → t < l.place → IsStepped (moved_at l.moved t) (chain_at l.initial.chains.items t) (chain_at l.chains.items t);
  rest : (t : ℕ) → l.place ≤ t → chain_at l.chains.items t ≡ chain_at l.initial.chains.items t;
}
