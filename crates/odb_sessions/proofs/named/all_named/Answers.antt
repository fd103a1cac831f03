use Rattle.std.proofs.Common.{rules, ◌≡◌, ◌++◌, ◌<◌, List, [], ◌∷◌, length, slice_index_or, sym, ◌∙◌}
use Rattle.odb_sessions.specs.Marked.{MarkedMonitor}
use Rattle.odb_sessions.specs.Named.{named_of}
use Rattle.odb_sessions.proofs.Loops.{mapped_more}
use Rattle.odb_sessions.proofs.named.all_named.Goals as goal

pub loop-monitor-preserved : goal.loop-monitor-preserved
loop-monitor-preserved c =
    let ms : List MarkedMonitor = c.args.monitors.now in
    let i = c.loop-monitor.monitor-index in
    let m : MarkedMonitor = c.monitor-item.result in
    let inside : i < length ms = search rules in
    let is : m ≡ slice_index_or ms i m = search rules in
    let items : c.push.new.self.items ≡ c.loop-monitor.named.items ++ named_of m ∷ [] = search rules in
    items ∙ (λ j. c.loop-monitor.invariant j ++ named_of m ∷ []) ∙ sym (mapped_more named_of ms i m inside is)
