use Rattle.std.proofs.Common.{rules, ◌≡◌, ◌<◌, ◌≤◌, List, flat_map, length, map, slice_index_or, take, refl, sym, subst, ◌∙◌}
use Rattle.std.proofs.lemmas.List.{take_all}
use Rattle.odb_interest.specs.Keys.{Interests, asked_at}
use Rattle.odb_sessions.specs.Marked.{MarkedMonitor, Watched}
use Rattle.odb_sessions.specs.Owed.{IsPut, KeepsOthers, filter_asked, filters_asked}
use Rattle.odb_sessions.proofs.Interests.{puts_all, puts_both, puts_none}
use Rattle.odb_sessions.proofs.Loops.{flat_more}
use Rattle.odb_sessions.proofs.interest.put_monitors.Goals as goal

pub loop-monitor-init : goal.loop-monitor-init
loop-monitor-init c = record {
  others = λ s e. refl;
  asked = puts_none (asked_at c.args.interest.now c.args.session) 0;
}

pub loop-monitor-preserved : goal.loop-monitor-preserved
loop-monitor-preserved c =
    let xs : List MarkedMonitor = c.args.monitors.now in
    let i = c.loop-monitor.monitor-index in
    let x : MarkedMonitor = c.monitor-item.result in
    let s = c.args.session in
    let first : Interests = c.args.interest.now in
    let old : Interests = c.loop-monitor.interest in
    let new : Interests = c.put_tables.new.interest in
    let inside : i < length xs = search rules in
    let is : x ≡ slice_index_or xs i x = search rules in
    let tables : c.as_slice.result.now ≡ x.tables = search rules in
    let others : KeepsOthers old new s = search rules in
    let put : IsPut (asked_at old s) (asked_at new s) c.loop-monitor.place (map filter_asked c.as_slice.result.now) c.in_ok-place.place = search rules in
    record {
      others = λ q e. others q e ∙ c.loop-monitor.invariant.others q e;
      asked = subst (λ fs. IsPut (asked_at first s) (asked_at new s) 0 fs c.in_ok-place.place) (sym (flat_more filters_asked xs i x inside is))
          (puts_both (asked_at first s) (asked_at old s) (asked_at new s) 0 c.loop-monitor.place c.in_ok-place.place (flat_map filters_asked (take i xs)) (filters_asked x) c.loop-monitor.invariant.asked
          (subst (λ (ws : List Watched). IsPut (asked_at old s) (asked_at new s) c.loop-monitor.place (map filter_asked ws) c.in_ok-place.place) tables put));
    }

pub returns-clause-ok : goal.returns-clause-ok
returns-clause-ok c =
    let xs : List MarkedMonitor = c.args.monitors.now in
    let s = c.args.session in
    let past : length xs ≤ c.loop-monitor.monitor-index = search rules in
    puts_all (asked_at c.args.interest.now s) (asked_at c.loop-monitor.interest s) (flat_map filters_asked xs) c.loop-monitor.place c.requires
    (subst (λ (ys : List MarkedMonitor). IsPut (asked_at c.args.interest.now s) (asked_at c.loop-monitor.interest s) 0 (flat_map filters_asked ys) c.loop-monitor.place) (take_all c.loop-monitor.monitor-index xs past) c.loop-monitor.invariant.asked)
