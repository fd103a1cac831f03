use Rattle.std.proofs.Common.{rules, ◌≡◌, ◌<◌, ◌≤◌, true, List, length, slice_index_or, subst, sym}
use Rattle.std.specs.List.{All}
use Rattle.std.proofs.lemmas.List.{take_all}
use Rattle.std.proofs.lemmas.List.Elements.{All-more}
use Rattle.odb_chain.specs.Chains.{Chains}
use Rattle.odb_sessions.specs.Composed.{AreNow}
use Rattle.odb_sessions.specs.Marked.{MarkedMonitor, marks_in}
use Rattle.odb_sessions.specs.Tied.{AreLive}
use Rattle.odb_sessions.proofs.QuietSessions.{live_at}
use Rattle.odb_sessions.proofs.resting.are_told.Goals as goal

pub is_told-requires : goal.is_told-requires
is_told-requires c =
    let k : Chains = c.args.chains.now in
    let xs : List MarkedMonitor = c.args.monitors.now in
    let i = c.loop-monitor.monitor-index in
    let x : MarkedMonitor = c.monitor-item.result in
    let inside : i < length xs = search rules in
    let is : x ≡ slice_index_or xs i x = search rules in
    subst (λ (y : MarkedMonitor). AreLive k (marks_in y)) (sym is) (live_at k xs i x inside c.requires)

pub loop-monitor-preserved : goal.loop-monitor-preserved
loop-monitor-preserved c =
    let xs : List MarkedMonitor = c.args.monitors.now in
    let i = c.loop-monitor.monitor-index in
    let x : MarkedMonitor = c.monitor-item.result in
    let inside : i < length xs = search rules in
    let is : x ≡ slice_index_or xs i x = search rules in
    let told : c.is_told.result ≡ true = search rules in
    let P : MarkedMonitor → Type 0 = λ m. AreNow c.args.chains.now.db m.tables in
    All-more P xs i x inside c.loop-monitor.invariant (subst P is (c.is_told.ensures told))

pub returns : goal.returns
returns c = λ e.
    let xs : List MarkedMonitor = c.args.monitors.now in
    let past : length xs ≤ c.loop-monitor.monitor-index = search rules in
    subst (All (λ (m : MarkedMonitor). AreNow c.args.chains.now.db m.tables)) (take_all c.loop-monitor.monitor-index xs past) c.loop-monitor.invariant
