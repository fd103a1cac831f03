use Rattle.std.proofs.Common.{◌≡◌, nat_le, true, subst, sym, ap, ◌∙◌}
use Rattle.odb_atoms.specs.FinMap as finite
use Rattle.odb_atoms.specs.Uuid.{Uuid}
use Rattle.odb_chain.specs.OldRows.{Rows, content_at}
use Rattle.odb_chain.specs.Represented.Chain.{Chain, IsChainOf}
use Rattle.odb_chain.specs.Represented.MarkedVersions.{IsPast}
use Rattle.odb_chain.proofs.chain.Chain.forget.Goals as goal
use Rattle.odb_chain.proofs.Contents.{empty_past, stays_content, stays_past}

pub returns-in-Some-clause-contents : goal.returns-in-Some-clause-contents
returns-in-Some-clause-contents c = λ t p there.
    let low : nat_le c.in-Some.version p ≡ true = c.in-Some.ensures.some p there in
    stays_content c.in-Some.version p t c.self.inside.old_rows.rows c.forget_before.new.self.rows low c.forget_before.ensures.rows ∙ ap (λ (y : Chain). content_at p t y.rows) c.self.view_is

pub returns-in-Some-clause-past : goal.returns-in-Some-clause-past
returns-in-Some-clause-past c = λ t h.
    let before : IsChainOf t c.args.self.now = h in
    let inside : (u : Uuid) → IsPast c.self.inside.version (finite.get t u) (finite.get c.self.inside.old_rows.rows u) = subst (λ (y : Chain). IsChainOf t y) (sym c.self.view_is) before in
    λ u. stays_past c.self.inside.version c.in-Some.version (finite.get t u) (finite.get c.self.inside.old_rows.rows u) (finite.get c.forget_before.new.self.rows u) (c.forget_before.ensures.rows u) (inside u)

pub returns-in-None-clause-past : goal.returns-in-None-clause-past
returns-in-None-clause-past c = λ t h u. subst (λ (rows : Rows). IsPast c.self.inside.version (finite.get t u) (finite.get rows u)) (sym c.clear.ensures) (empty_past c.self.inside.version t u)
