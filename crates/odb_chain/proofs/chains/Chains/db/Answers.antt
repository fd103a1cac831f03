use Rattle.std.proofs.Common.{◌≡◌, length, subst}
use Rattle.odb_chain.specs.Chains.{Chains}
use Rattle.odb_chain.proofs.Shown.{as_many_live}
use Rattle.odb_chain.proofs.chains.Chains.db.Goals as goal

pub returns-clause-lists : goal.returns-clause-lists
returns-clause-lists c = subst (λ (k : Chains). length k.live ≡ length k.db) c.self.view_is (as_many_live c.self.inside.db c.self.inside.chains.items c.self.invariant.0)
