use Rattle.std.proofs.Common.{rules, ◌≡◌, ◌++◌, ◌<◌, List, [], ◌∷◌, length, slice_index_or, sym, ◌∙◌}
use Rattle.odb_round.specs.Foreseen.{as_told}
use Rattle.odb_sessions.specs.Marked.{MarkedMonitor}
use Rattle.odb_sessions.proofs.Loops.{mapped_more}
use Rattle.odb_round.proofs.foreseen.all_ahead.Goals as goal

pub loop-monitor-preserved : goal.loop-monitor-preserved
loop-monitor-preserved c =
    let ms : List MarkedMonitor = c.args.monitors.now in
    let i = c.loop-monitor.monitor-index in
    let m : MarkedMonitor = c.monitor-item.result in
    let inside : i < length ms = search rules in
    let is : m ≡ slice_index_or ms i m = search rules in
    let items : c.push_reserved.new.self.items ≡ c.loop-monitor.ahead.items ++ as_told m ∷ [] = search rules in
    (items ∙ (λ j. c.loop-monitor.invariant.0 j ++ as_told m ∷ []) ∙ sym (mapped_more as_told ms i m inside is), search rules, search rules)
