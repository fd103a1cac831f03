use Rattle.std.proofs.Common.{◌≡◌, List, map, None, option_map, sym, ap, subst, ◌∙◌}
use Rattle.odb_chain.specs.Chains.{Chains}
use Rattle.odb_service.specs.Server.{served_by}
use Rattle.odb_service.specs.Session.{Session}
use Rattle.odb_sessions.specs.Carried.{Carries, IsReady, used_by}
use Rattle.odb_sessions.specs.Marked.{MarkedMonitor, MarkedSession, item_seen, marks_of, monitor_of, seen}
use Rattle.odb_sessions.specs.Watches.{KeepsWatch, asking_in, asking_of}
use Rattle.odb_sessions.proofs.AnySchema.{no_schema}
use Rattle.odb_sessions.proofs.Carried.{carried_on, ready_then}
use Rattle.odb_sessions.proofs.Used.{monitors_carried, monitors_ready, used_both}
use Rattle.odb_sessions.proofs.WatchNumbers.{brought_asks, keeps_on}
use Rattle.odb_sessions.proofs.session.Session.carry_out.Goals as goal

pub bring_first-requires : goal.bring_first-requires
bring_first-requires c =
    let k : Chains = c.use_up-text.new.past in
    let x : MarkedSession = c.args.self.now in
    let y : MarkedSession = c.use_up-text.new.self in
    let ready : IsReady k (marks_of y) = ready_then c.args.past.now k (marks_of x) (marks_of y) c.requires c.use_up-text.ensures.carried in
    monitors_ready k c.self.inside.queue c.self.inside.monitors.items (subst (λ (z : MarkedSession). IsReady k (marks_of z)) (sym c.self.view_is) ready)

pub returns-clause-session : goal.returns-clause-session
returns-clause-session c = λ s.
    let first : Chains = c.args.past.now in
    let k : Chains = c.use_up-text.new.past in
    let x : MarkedSession = c.args.self.now in
    let y : MarkedSession = c.use_up-text.new.self in
    (λ i. let z : Session = record { queue = map item_seen c.self.inside.queue; monitors = c.bring_first.ensures.monitors s i } in z)
    ∙ ap (λ (z : MarkedSession). used_by (served_by s) k.db 0 c.args.monitors (seen z)) c.self.view_is
    ∙ ap (λ db. used_by (served_by s) db 0 c.args.monitors (seen y)) c.use_up-text.ensures.carried.0
    ∙ ap (used_by (served_by s) first.db 0 c.args.monitors) (c.use_up-text.ensures.session s) ∙ used_both (served_by s) first.db c.args.items c.args.monitors (seen x)

pub returns-clause-carried : goal.returns-clause-carried
returns-clause-carried c =
    let first : Chains = c.args.past.now in
    let k : Chains = c.use_up-text.new.past in
    let new : Chains = c.bring_first.new.past in
    let x : MarkedSession = c.args.self.now in
    let y : MarkedSession = c.use_up-text.new.self in
    let ys : List MarkedMonitor = c.bring_first.new.monitors.items in
    let brought : MarkedSession = record { queue = c.self.inside.queue; monitors = ys; watch = None } in
    let ready : IsReady k (marks_of y) = ready_then first k (marks_of x) (marks_of y) c.requires c.use_up-text.ensures.carried in
    let carried : Carries k new (marks_of y) (marks_of brought) =
    subst (λ (z : MarkedSession). Carries k new (marks_of z) (marks_of brought)) c.self.view_is
    (monitors_carried k new c.self.inside.queue c.self.inside.monitors.items ys (subst (λ (z : MarkedSession). IsReady k (marks_of z)) (sym c.self.view_is) ready) c.bring_first.ensures.carried)
    in
    carried_on first k new (marks_of x) (marks_of y) (marks_of brought) c.requires.0 c.use_up-text.ensures.carried carried

pub returns-clause-watch : goal.returns-clause-watch
returns-clause-watch c =
    let k : Chains = c.use_up-text.new.past in
    let y : MarkedSession = c.use_up-text.new.self in
    let brought : MarkedSession = record { queue = c.self.inside.queue; monitors = c.bring_first.new.monitors.items; watch = option_map (λ w. w.number) c.self.inside.watch } in
    let keeps : KeepsWatch y brought = λ n is. (sym (ap (λ (z : MarkedSession). z.watch) c.self.view_is) ∙ is, ap (map asking_of) (c.bring_first.ensures.monitors no_schema) ∙ brought_asks (served_by no_schema) k.db c.args.monitors (map monitor_of c.self.inside.monitors.items) ∙ ap asking_in c.self.view_is) in
    keeps_on c.args.self.now y brought c.use_up-text.ensures.watch keeps
