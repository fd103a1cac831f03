use Rattle.std.proofs.Common.{◌≡◌, List, subst, sym, ap, ◌∙◌, map}
use Rattle.odb_chain.specs.Chains.{Chains}
use Rattle.odb_sessions.specs.Composed.{AreTheirs, asked_of}
use Rattle.odb_sessions.specs.Marked.{MarkedMonitor, Watched}
use Rattle.odb_sessions.specs.Moved.{brought_under}
use Rattle.odb_sessions.specs.Represented.Item.{filters_of}
use Rattle.odb_sessions.specs.Started.{AreApart}
use Rattle.odb_sessions.proofs.OtherFilters.{marks_under, monitor_under, theirs_under, told_asked}
use Rattle.odb_sessions.proofs.monitor.Monitor.bring_under.Goals as goal

pub bring_all_under-requires-clause-apart : goal.bring_all_under-requires-clause-apart
bring_all_under-requires-clause-apart c = c.self.invariant.1

pub invariant_of-self : goal.invariant_of-self
invariant_of-self c =
    subst (λ (ws : List Watched). AreTheirs ws × AreApart (asked_of ws)) (sym c.bring_all_under.ensures.tables) (
      theirs_under c.args.past.now (filters_of c.args.changes) c.self.inside.tables.items c.self.invariant.0,
      subst AreApart (sym (told_asked c.args.past.now (filters_of c.args.changes) c.self.inside.tables.items)) c.self.invariant.1,
    )

pub returns-clause-monitor : goal.returns-clause-monitor
returns-clause-monitor c = λ h.
    let k : Chains = c.args.past.now in
    let x : MarkedMonitor = c.args.self.now in
    let same : c.self.inside.tables.items ≡ x.tables = ap (λ (y : MarkedMonitor). y.tables) c.self.view_is in
    monitor_under h k x _ (filters_of c.args.changes) (ap (λ (y : MarkedMonitor). y.id) c.self.view_is) (ap (λ (y : MarkedMonitor). y.notation) c.self.view_is) (ap (λ (y : MarkedMonitor). y.since) c.self.view_is)
    (c.bring_all_under.ensures.tables ∙ ap (λ (ws : List Watched). map (brought_under k (filters_of c.args.changes)) ws) same) (subst AreTheirs same c.self.invariant.0)

pub returns-clause-marks : goal.returns-clause-marks
returns-clause-marks c =
    let k : Chains = c.args.past.now in
    let x : MarkedMonitor = c.args.self.now in
    let same : c.self.inside.tables.items ≡ x.tables = ap (λ (y : MarkedMonitor). y.tables) c.self.view_is in
    marks_under k x c.bring_all_under.new.tables.items (filters_of c.args.changes) (c.bring_all_under.ensures.tables ∙ ap (λ (ws : List Watched). map (brought_under k (filters_of c.args.changes)) ws) same)
