use Rattle.std.proofs.Common.{◌∙◌}
use Rattle.odb_atoms.specs.Value.{same_value}
use Rattle.odb_cond.proofs.Same.{same_clauses}
use Rattle.odb_cond.proofs.clause.Clause.same.Goals as goal

pub returns-then-asks_alike : goal.returns-then-asks_alike
returns-then-asks_alike c =
    same_clauses c.args.self.now c.args.other.now c.eq.result (c.asks_alike.ensures.0 c.if-asks_alike.true) (c.eq.ensures.same ∙ (λ i. same_value (c.self.view_is i).value (c.other.view_is i).value))
