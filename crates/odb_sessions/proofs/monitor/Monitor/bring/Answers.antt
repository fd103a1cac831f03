use Rattle.std.proofs.Common.{◌≡◌, List, subst, sym, ap, ◌∙◌, map}
use Rattle.odb_chain.specs.Chains.{Chains}
use Rattle.odb_sessions.specs.Composed.{AreTheirs, asked_of}
use Rattle.odb_sessions.specs.Marked.{MarkedMonitor, Watched}
use Rattle.odb_sessions.specs.Moved.{brought_to}
use Rattle.odb_sessions.specs.Started.{AreApart}
use Rattle.odb_sessions.proofs.Brought.{brought_asked}
use Rattle.odb_sessions.proofs.Theirs.{marks_brought, monitor_brought, theirs_brought}
use Rattle.odb_sessions.proofs.monitor.Monitor.bring.Goals as goal

pub invariant_of-self : goal.invariant_of-self
invariant_of-self c = subst (λ (ws : List Watched). AreTheirs ws × AreApart (asked_of ws)) (sym c.bring_all.ensures.tables) (
  theirs_brought c.args.past.now c.self.inside.tables.items c.self.invariant.0,
  subst AreApart (sym (brought_asked c.args.past.now c.self.inside.tables.items)) c.self.invariant.1,
)

pub returns-clause-monitor : goal.returns-clause-monitor
returns-clause-monitor c = λ h.
    let k : Chains = c.args.past.now in
    let x : MarkedMonitor = c.args.self.now in
    let same : c.self.inside.tables.items ≡ x.tables = ap (λ (y : MarkedMonitor). y.tables) c.self.view_is in
    monitor_brought h k x _ (ap (λ (y : MarkedMonitor). y.id) c.self.view_is) (ap (λ (y : MarkedMonitor). y.notation) c.self.view_is) (ap (λ (y : MarkedMonitor). y.since) c.self.view_is)
    (c.bring_all.ensures.tables ∙ ap (λ (ws : List Watched). map (brought_to k) ws) same) (subst AreTheirs same c.self.invariant.0)

pub returns-clause-marks : goal.returns-clause-marks
returns-clause-marks c =
    let k : Chains = c.args.past.now in
    let x : MarkedMonitor = c.args.self.now in
    let same : c.self.inside.tables.items ≡ x.tables = ap (λ (y : MarkedMonitor). y.tables) c.self.view_is in
    marks_brought k x c.bring_all.new.tables.items (c.bring_all.ensures.tables ∙ ap (λ (ws : List Watched). map (brought_to k) ws) same)
