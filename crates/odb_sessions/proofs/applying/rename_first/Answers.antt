use Rattle.std.proofs.Common.{rules, ◌≡◌, ◌<◌, List, length, slice_index_or}
use Rattle.std.specs.Arc.{arc_value}
use Rattle.odb_service.specs.Server.{served_by}
use Rattle.odb_service.specs.Session.{changed}
use Rattle.odb_sessions.specs.Marked.{MarkedMonitor}
use Rattle.odb_sessions.specs.Represented.Item.{filters_of}
use Rattle.odb_sessions.proofs.Carried.{same_marks}
use Rattle.odb_sessions.proofs.Firsts.{IsFirst, IsNowhere, seen_found, seen_nowhere}
use Rattle.odb_sessions.proofs.applying.rename_first.Goals as goal

pub returns-in_default-clause-monitors : goal.returns-in_default-clause-monitors
returns-in_default-clause-monitors c = λ s.
    let xs : List MarkedMonitor = c.args.monitors.now.items in
    let none : IsNowhere s c.args.old.now xs = search rules in
    seen_nowhere s c.args.old.now xs (λ m. record m { watch = changed (served_by s) (arc_value c.args.new) (filters_of c.args.changes) m.watch }) none

pub returns-clause-monitors : goal.returns-clause-monitors
returns-clause-monitors c = λ s.
    let xs : List MarkedMonitor = c.args.monitors.now.items in
    let n = c.in-Some.place in
    let x : MarkedMonitor = c.index_mut.result.now in
    let at : x ≡ slice_index_or xs n x = search rules in
    let found : IsFirst s c.args.old.now xs n = search rules in
    seen_found s c.args.old.now xs (λ m. record m { watch = changed (served_by s) (arc_value c.args.new) (filters_of c.args.changes) m.watch }) n x c.rename.new.self found at (c.rename.ensures.monitor (served_by s))

pub returns-clause-marks : goal.returns-clause-marks
returns-clause-marks c =
    let xs : List MarkedMonitor = c.args.monitors.now.items in
    let n = c.in-Some.place in
    let x : MarkedMonitor = c.index_mut.result.now in
    let low : n < length xs = search rules in
    let at : x ≡ slice_index_or xs n x = search rules in
    same_marks xs n x c.rename.new.self low at c.rename.ensures.marks
