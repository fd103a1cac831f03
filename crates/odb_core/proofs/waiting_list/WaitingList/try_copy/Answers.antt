use Rattle.std.proofs.Common.{◌≡◌, ap, sym, subst, ◌∙◌}
use Rattle.odb_core.specs.Deadlines.{earliest}
use Rattle.odb_core.specs.Represented.Counts.{AreCounted}
use Rattle.odb_core.proofs.WaitingCounts.{equal_list}
use Rattle.odb_core.proofs.waiting_list.WaitingList.try_copy.Goals as goal

pub invariant_of-result : goal.invariant_of-result
invariant_of-result c =
    let same : c.in_ok-clone.field-0.items ≡ c.self.inside.items.items = equal_list c.self.inside.items.items c.in_ok-clone.field-0.items c.in_ok-clone.ensures.cases.0 in
    (subst (AreCounted c.in_ok-try_copy.field-0) (sym same) (λ s. c.in_ok-try_copy.ensures s ∙ c.self.invariant.0 s), c.self.invariant.1 ∙ ap earliest (sym same))
