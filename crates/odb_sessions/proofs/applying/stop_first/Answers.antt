use Rattle.std.proofs.Common.{rules, ◌≡◌, ◌<◌, List, length, map, slice_index_or, subst, sym, ap, ◌∙◌}
use Rattle.std.specs.List.{remove}
use Rattle.odb_sessions.specs.Carried.{Carries}
use Rattle.odb_sessions.specs.Marked.{MarkedMonitor, monitor_of}
use Rattle.odb_sessions.proofs.Carried.{flat, freed_one, nothing_carried, ready_one}
use Rattle.odb_sessions.proofs.Firsts.{IsFirst, IsNowhere, seen_gone, seen_none_gone}
use Rattle.odb_sessions.proofs.applying.stop_first.Goals as goal

pub release-requires : goal.release-requires
release-requires c =
    let xs : List MarkedMonitor = c.args.monitors.now.items in
    let n = c.in-Some.place in
    let x : MarkedMonitor = c.remove-stopped.result in
    let low : n < length xs = search rules in
    let at : x ≡ slice_index_or xs n x = search rules in
    (ready_one c.args.past.now xs n x low at c.requires).1

pub returns-in_default-clause-monitors : goal.returns-in_default-clause-monitors
returns-in_default-clause-monitors c = λ s.
    let xs : List MarkedMonitor = c.args.monitors.now.items in
    let none : IsNowhere s c.args.id.now xs = search rules in
    seen_none_gone s c.args.id.now xs none

pub returns-in_default-clause-carried : goal.returns-in_default-clause-carried
returns-in_default-clause-carried c = nothing_carried c.args.past.now (flat c.args.monitors.now.items) c.requires

pub returns-clause-monitors : goal.returns-clause-monitors
returns-clause-monitors c = λ s.
    let xs : List MarkedMonitor = c.args.monitors.now.items in
    let n = c.in-Some.place in
    let found : IsFirst s c.args.id.now xs n = search rules in
    let taken : c.remove-stopped.new.self.items ≡ remove xs n = search rules in
    ap (map monitor_of) taken ∙ seen_gone s c.args.id.now xs n found

pub returns-clause-carried : goal.returns-clause-carried
returns-clause-carried c =
    let xs : List MarkedMonitor = c.args.monitors.now.items in
    let n = c.in-Some.place in
    let x : MarkedMonitor = c.remove-stopped.result in
    let low : n < length xs = search rules in
    let at : x ≡ slice_index_or xs n x = search rules in
    let taken : c.remove-stopped.new.self.items ≡ remove xs n = search rules in
    subst (λ (ys : List MarkedMonitor). Carries c.args.past.now c.release.new.past (flat xs) (flat ys)) (sym taken) (freed_one c.args.past.now xs n x low at c.requires c.release.new.past c.release.ensures)
