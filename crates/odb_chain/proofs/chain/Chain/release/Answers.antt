use Rattle.std.proofs.Common.{subst, sym}
use Rattle.odb_atoms.specs.FinMap as finite
use Rattle.odb_chain.specs.OldRows.{Rows}
use Rattle.odb_chain.specs.Represented.Chain.{Chain, IsChainOf}
use Rattle.odb_chain.specs.Represented.MarkedVersions.{IsPast}
use Rattle.odb_chain.proofs.chain.Chain.release.Goals as goal

pub returns-then-ne-clause-past : goal.returns-then-ne-clause-past
returns-then-ne-clause-past c = λ t h.
    let x : Chain = c.args.self.now in
    let taken : Chain = c.take.new.self in
    let before : IsChainOf t x = h in
    c.forget.ensures.past t (λ u. subst (λ (rows : Rows). IsPast taken.version (finite.get t u) (finite.get rows u)) (sym c.take.ensures.rows) (subst (λ v. IsPast v (finite.get t u) (finite.get x.rows u)) (sym c.take.ensures.version) (before u)))
