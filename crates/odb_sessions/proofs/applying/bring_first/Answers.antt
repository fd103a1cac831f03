use Rattle.std.proofs.Common.{rules, ◌≡◌, ◌<◌, ◌≤◌, arith, List, length, map, min, slice_index_or, slice_set, refl, ap, ◌∙◌}
use Rattle.std.proofs.lemmas.List.{length-map}
use Rattle.odb_chain.specs.Chains.{Chains}
use Rattle.odb_service.specs.Server.{served_by}
use Rattle.odb_service.specs.Session.{Monitor, brought}
use Rattle.odb_sessions.specs.Carried.{IsReady}
use Rattle.odb_sessions.specs.Marked.{MarkedMonitor, monitor_of}
use Rattle.odb_sessions.proofs.Carried.{carried_on, flat, moved_one, nothing_carried, ready_one, ready_then}
use Rattle.odb_sessions.proofs.Firsts.{at_seen, brought_all, one_more_brought, set_seen}
use Rattle.odb_sessions.proofs.applying.bring_first.Goals as goal

pub loop-place-init : goal.loop-place-init
loop-place-init c = record {
  few = refl;
  capacity = refl;
  monitors = λ s. refl;
  carried = nothing_carried c.args.past.now (flat c.args.monitors.now.items) c.requires;
}

pub bring-requires-clause-has : goal.bring-requires-clause-has
bring-requires-clause-has c =
    let xs : List MarkedMonitor = c.loop-place.monitors.items in
    let n = c.loop-place.place in
    let x : MarkedMonitor = c.index_mut.result.now in
    let low : n < length xs = search rules in
    let at : x ≡ slice_index_or xs n x = search rules in
    let ready : IsReady c.loop-place.past (flat xs) = ready_then c.args.past.now c.loop-place.past (flat c.args.monitors.now.items) (flat xs) c.requires c.loop-place.invariant.carried in
    (ready_one c.loop-place.past xs n x low at ready).1

pub bring-requires-clause-now : goal.bring-requires-clause-now
bring-requires-clause-now c = c.loop-place.invariant.carried.5

pub loop-place-preserved : goal.loop-place-preserved
loop-place-preserved c =
    let old = c.loop-place in
    let k : Chains = old.past in
    let new : Chains = c.bring.new.past in
    let xs : List MarkedMonitor = old.monitors.items in
    let n = old.place in
    let x : MarkedMonitor = c.index_mut.result.now in
    let y : MarkedMonitor = c.bring.new.self in
    let low : n < length xs = search rules in
    let at : x ≡ slice_index_or xs n x = search rules in
    let first : Chains = c.args.past.now in
    let all : List MarkedMonitor = c.args.monitors.now.items in
    let ready : IsReady k (flat xs) = ready_then first k (flat all) (flat xs) c.requires old.invariant.carried in
    record {
      few = old.invariant.few;
      capacity = old.invariant.capacity;
      monitors = λ s.
          let long : length (map monitor_of xs) ≡ length xs = length-map xs monitor_of in
          set_seen xs n y
          ∙ one_more_brought (served_by s) first.db (map monitor_of all) (map monitor_of xs) n (monitor_of x) (monitor_of y) (old.invariant.monitors s) (omega (arith, low, long))
          (c.bring.ensures.monitor (served_by s) ∙ ap (λ db. brought (served_by s) db (monitor_of x).watch.requests (monitor_of x)) old.invariant.carried.0 ∙ ap (λ (m : Monitor). brought (served_by s) first.db m.watch.requests m) (at_seen xs n x at));
      carried = carried_on first k new (flat all) (flat xs) (flat (slice_set xs n y)) c.requires.0 old.invariant.carried (moved_one k xs n x low at ready new y c.bring.ensures.moved c.bring.ensures.marks);
    }

pub returns-clause-monitors : goal.returns-clause-monitors
returns-clause-monitors c = λ s.
    let old = c.loop-place in
    let all : List MarkedMonitor = c.args.monitors.now.items in
    let long : length (map monitor_of all) ≡ length all = length-map all monitor_of in
    let stop : c.min-all.result ≡ min c.args.count (length all) = search rules in
    let past : c.min-all.result ≤ old.place = search rules in
    let within : old.place ≤ c.min-all.result = search rules in
    old.invariant.monitors s ∙ brought_all (served_by s) c.args.past.now.db (map monitor_of all) old.place c.args.count (length all) long (let same : old.place ≡ c.min-all.result = omega (arith, past, within) in same ∙ stop)
