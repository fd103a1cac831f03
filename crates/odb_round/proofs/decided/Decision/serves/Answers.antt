use Rattle.std.proofs.Common.{ap, subst, sym, true≢false, ◌∙◌}
use Rattle.odb_sessions.specs.Marked.{MarkedMonitor}
use Rattle.odb_round.specs.Jobs.{Decision}
use Rattle.odb_round.specs.Represented.Decided.{IsDecisionOf}
use Rattle.odb_round.proofs.OneSchema.{same_bare, same_likeness}
use Rattle.odb_round.proofs.decided.Decision.serves.Goals as goal

pub returns-clause-same : goal.returns-clause-same
returns-clause-same c = λ is s of other.
    let x : MarkedMonitor = c.self.inside.monitor.now in
    let y : MarkedMonitor = c.args.monitor.now in
    ap (λ (d : Decision). d.likeness) (sym c.self.view_is)
    ∙ same_likeness s x y c.self.inside.way c.args.way (subst (IsDecisionOf s) (sym c.self.view_is) of) other (c.is_like.ensures.0 is)

pub returns-clause-differs : goal.returns-clause-differs
returns-clause-differs c = λ isnt e.
    let x : MarkedMonitor = c.self.inside.monitor.now in
    let y : MarkedMonitor = c.args.monitor.now in
    true≢false (sym (c.is_like.ensures.1 (same_bare x y c.self.inside.way c.args.way (ap (λ (d : Decision). d.likeness) c.self.view_is ∙ e))) ∙ isnt)
