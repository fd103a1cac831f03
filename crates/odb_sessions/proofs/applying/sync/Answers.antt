use Rattle.std.proofs.Common.{rules, ◌≡◌, ◌<◌, List, length, slice_index_or}
use Rattle.odb_service.specs.Server.{served_by}
use Rattle.odb_service.specs.Session.{brought}
use Rattle.odb_sessions.specs.Marked.{MarkedMonitor}
use Rattle.odb_sessions.proofs.Carried.{flat, moved_one, nothing_carried, ready_one}
use Rattle.odb_sessions.proofs.Firsts.{IsFirst, IsNowhere, seen_found, seen_nowhere}
use Rattle.odb_sessions.proofs.applying.sync.Goals as goal

pub bring-requires-clause-has : goal.bring-requires-clause-has
bring-requires-clause-has c =
    let xs : List MarkedMonitor = c.args.monitors.now.items in
    let n = c.in-Some.place in
    let x : MarkedMonitor = c.index_mut.result.now in
    let low : n < length xs = search rules in
    let at : x ≡ slice_index_or xs n x = search rules in
    (ready_one c.args.past.now xs n x low at c.requires).1

pub bring-requires-clause-now : goal.bring-requires-clause-now
bring-requires-clause-now c = c.requires.0

pub returns-in_default-clause-monitors : goal.returns-in_default-clause-monitors
returns-in_default-clause-monitors c = λ s.
    let xs : List MarkedMonitor = c.args.monitors.now.items in
    let none : IsNowhere s c.args.id.now xs = search rules in
    seen_nowhere s c.args.id.now xs (λ m. brought (served_by s) c.args.past.now.db m.watch.requests m) none

pub returns-in_default-clause-carried : goal.returns-in_default-clause-carried
returns-in_default-clause-carried c = nothing_carried c.args.past.now (flat c.args.monitors.now.items) c.requires

pub returns-clause-monitors : goal.returns-clause-monitors
returns-clause-monitors c = λ s.
    let xs : List MarkedMonitor = c.args.monitors.now.items in
    let n = c.in-Some.place in
    let x : MarkedMonitor = c.index_mut.result.now in
    let at : x ≡ slice_index_or xs n x = search rules in
    let found : IsFirst s c.args.id.now xs n = search rules in
    seen_found s c.args.id.now xs (λ m. brought (served_by s) c.args.past.now.db m.watch.requests m) n x c.bring.new.self found at (c.bring.ensures.monitor (served_by s))

pub returns-clause-carried : goal.returns-clause-carried
returns-clause-carried c =
    let xs : List MarkedMonitor = c.args.monitors.now.items in
    let n = c.in-Some.place in
    let x : MarkedMonitor = c.index_mut.result.now in
    let low : n < length xs = search rules in
    let at : x ≡ slice_index_or xs n x = search rules in
    moved_one c.args.past.now xs n x low at c.requires c.bring.new.past c.bring.new.self c.bring.ensures.moved c.bring.ensures.marks
