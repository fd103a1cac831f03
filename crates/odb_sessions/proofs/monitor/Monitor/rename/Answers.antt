use Rattle.std.proofs.Common.{◌≡◌, List, subst, sym, ap, ◌∙◌, map}
use Rattle.odb_sessions.specs.Composed.{AreTheirs, asked_of}
use Rattle.odb_sessions.specs.Marked.{MarkedMonitor, Watched}
use Rattle.odb_sessions.specs.Moved.{asked_under}
use Rattle.odb_sessions.specs.Represented.Item.{filters_of}
use Rattle.odb_sessions.specs.Started.{AreApart}
use Rattle.odb_sessions.proofs.OtherFilters.{apart_asked, marks_asked, monitor_renamed, theirs_asked}
use Rattle.odb_sessions.proofs.monitor.Monitor.rename.Goals as goal

pub ask_all_under-requires : goal.ask_all_under-requires
ask_all_under-requires c = c.self.invariant.1

pub invariant_of-self : goal.invariant_of-self
invariant_of-self c =
    subst (λ (ws : List Watched). AreTheirs ws × AreApart (asked_of ws)) (sym c.ask_all_under.ensures) (
      theirs_asked (filters_of c.args.changes) c.self.inside.tables.items c.self.invariant.0,
      apart_asked (filters_of c.args.changes) c.self.inside.tables.items c.self.invariant.1,
    )

pub returns-clause-monitor : goal.returns-clause-monitor
returns-clause-monitor c = λ h.
    let x : MarkedMonitor = c.args.self.now in
    let same : c.self.inside.tables.items ≡ x.tables = ap (λ (y : MarkedMonitor). y.tables) c.self.view_is in
    monitor_renamed h x _ (filters_of c.args.changes) (ap (λ (y : MarkedMonitor). y.notation) c.self.view_is) (ap (λ (y : MarkedMonitor). y.since) c.self.view_is) (c.ask_all_under.ensures ∙ ap (λ (ws : List Watched). map (asked_under (filters_of c.args.changes)) ws) same)

pub returns-clause-marks : goal.returns-clause-marks
returns-clause-marks c =
    let x : MarkedMonitor = c.args.self.now in
    let same : c.self.inside.tables.items ≡ x.tables = ap (λ (y : MarkedMonitor). y.tables) c.self.view_is in
    marks_asked (filters_of c.args.changes) x c.ask_all_under.new.tables.items (c.ask_all_under.ensures ∙ ap (λ (ws : List Watched). map (asked_under (filters_of c.args.changes)) ws) same)
