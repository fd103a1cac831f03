use Rattle.std.proofs.Common.{rules, ◌≡◌, ◌<◌, List, length, slice_index_or}
use Rattle.std.specs.Arc.{arc_value}
use Rattle.odb_service.specs.Server.{served_by}
use Rattle.odb_service.specs.Session.{brought, refilter}
use Rattle.odb_sessions.specs.Marked.{MarkedMonitor}
use Rattle.odb_sessions.specs.Represented.Item.{filters_of}
use Rattle.odb_sessions.proofs.Carried.{flat, moved_one, nothing_carried, ready_one}
use Rattle.odb_sessions.proofs.Firsts.{IsFirst, IsNowhere, seen_found, seen_nowhere}
use Rattle.odb_sessions.proofs.applying.shift_to.Goals as goal

pub bring_under-requires-clause-has : goal.bring_under-requires-clause-has
bring_under-requires-clause-has c =
    let xs : List MarkedMonitor = c.args.monitors.now.items in
    let n = c.in-Some.place in
    let x : MarkedMonitor = c.index_mut.result.now in
    let low : n < length xs = search rules in
    let at : x ≡ slice_index_or xs n x = search rules in
    (ready_one c.args.past.now xs n x low at c.requires).1

pub bring_under-requires-clause-now : goal.bring_under-requires-clause-now
bring_under-requires-clause-now c = c.requires.0

pub returns-in_default-clause-monitors : goal.returns-in_default-clause-monitors
returns-in_default-clause-monitors c = λ s.
    let xs : List MarkedMonitor = c.args.monitors.now.items in
    let none : IsNowhere s (arc_value c.args.shift.id) xs = search rules in
    seen_nowhere s (arc_value c.args.shift.id) xs (λ m. brought (served_by s) c.args.past.now.db (refilter (filters_of c.args.shift.changes) m.watch.requests) m) none

pub returns-in_default-clause-carried : goal.returns-in_default-clause-carried
returns-in_default-clause-carried c = nothing_carried c.args.past.now (flat c.args.monitors.now.items) c.requires

pub returns-clause-monitors : goal.returns-clause-monitors
returns-clause-monitors c = λ s.
    let xs : List MarkedMonitor = c.args.monitors.now.items in
    let n = c.in-Some.place in
    let x : MarkedMonitor = c.index_mut.result.now in
    let at : x ≡ slice_index_or xs n x = search rules in
    let found : IsFirst s (arc_value c.args.shift.id) xs n = search rules in
    seen_found s (arc_value c.args.shift.id) xs (λ m. brought (served_by s) c.args.past.now.db (refilter (filters_of c.args.shift.changes) m.watch.requests) m) n x c.bring_under.new.self found at (c.bring_under.ensures.monitor (served_by s))

pub returns-clause-carried : goal.returns-clause-carried
returns-clause-carried c =
    let xs : List MarkedMonitor = c.args.monitors.now.items in
    let n = c.in-Some.place in
    let x : MarkedMonitor = c.index_mut.result.now in
    let low : n < length xs = search rules in
    let at : x ≡ slice_index_or xs n x = search rules in
    moved_one c.args.past.now xs n x low at c.requires c.bring_under.new.past c.bring_under.new.self c.bring_under.ensures.moved c.bring_under.ensures.marks
