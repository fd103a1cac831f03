use mathlib.Core.Path.{sym, ap, ◌∙◌}
use Rattle.odb_atoms.specs.Represented.Value.{content_of}
use Rattle.odb_atoms.proofs.Represented.Orders.{eq_by_cmp-value_cmp, one_ties}
use Rattle.odb_atoms.proofs.value.ValuePartialEq.eq.Goals as goal

pub returns-in-One-One-clause-value : goal.returns-in-One-One-clause-value
returns-in-One-One-clause-value c =
    let here = c.in-One-One in
    c.eq.ensures ∙ one_ties here.left here.right _ _ (ap content_of (sym here.is-0) ∙ c.self.view_is) (ap content_of (sym here.is-1) ∙ c.other.view_is)

pub returns-in-One-One-clause-same : goal.returns-in-One-One-clause-same
returns-in-One-One-clause-same c =
    let here = c.in-One-One in
    c.eq.ensures ∙ one_ties here.left here.right _ _ (ap content_of (sym here.is-0) ∙ c.self.view_is) (ap content_of (sym here.is-1) ∙ c.other.view_is)
    ∙ eq_by_cmp-value_cmp c.args.self.now c.args.other.now
