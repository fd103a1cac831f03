use Rattle.std.proofs.Common.{rules, ◌≡◌, ◌<◌, ◌≤◌, ◌++◌, List, flat_map, length, map, slice_index_or, take, append-nil, append_assoc, refl, sym, ap, ◌∙◌}
use Rattle.std.proofs.lemmas.List.{take_all}
use Rattle.odb_interest.specs.Keys.{Interests, asked_at}
use Rattle.odb_sessions.specs.Marked.{MarkedMonitor, Watched}
use Rattle.odb_sessions.specs.Owed.{KeepsOthers, filter_asked, filters_asked}
use Rattle.odb_sessions.proofs.Loops.{flat_more}
use Rattle.odb_sessions.proofs.interest.add_monitors.Goals as goal

pub loop-monitor-init : goal.loop-monitor-init
loop-monitor-init c = record {
  others = λ s e. refl;
  asked = sym (append-nil (asked_at c.args.interest.now c.args.session));
}

pub loop-monitor-preserved : goal.loop-monitor-preserved
loop-monitor-preserved c =
    let xs : List MarkedMonitor = c.args.monitors.now in
    let i = c.loop-monitor.monitor-index in
    let x : MarkedMonitor = c.monitor-item.result in
    let s = c.args.session in
    let old : Interests = c.loop-monitor.interest in
    let new : Interests = c.add_tables.new.interest in
    let first : Interests = c.args.interest.now in
    let inside : i < length xs = search rules in
    let is : x ≡ slice_index_or xs i x = search rules in
    let tables : c.as_slice.result.now ≡ x.tables = search rules in
    let others : KeepsOthers old new s = search rules in
    let more : asked_at new s ≡ asked_at old s ++ map filter_asked c.as_slice.result.now = search rules in
    record {
      others = λ q e. others q e ∙ c.loop-monitor.invariant.others q e;
      asked = more ∙ ap (λ (ws : List Watched). asked_at old s ++ map filter_asked ws) tables ∙ ap (λ fs. fs ++ filters_asked x) c.loop-monitor.invariant.asked
          ∙ append_assoc (asked_at first s) (flat_map filters_asked (take i xs)) (filters_asked x)
          ∙ ap (λ fs. asked_at first s ++ fs) (sym (flat_more filters_asked xs i x inside is));
    }

pub returns-clause-ok : goal.returns-clause-ok
returns-clause-ok c =
    let xs : List MarkedMonitor = c.args.monitors.now in
    let past : length xs ≤ c.loop-monitor.monitor-index = search rules in
    c.loop-monitor.invariant.asked ∙ ap (λ (ys : List MarkedMonitor). asked_at c.args.interest.now c.args.session ++ flat_map filters_asked ys) (take_all c.loop-monitor.monitor-index xs past)
