use Rattle.std.proofs.Common.{rules, ◌≡◌, [], ◌∷◌, ◌++◌, List, map, ap, subst, sym, ◌∙◌}
use Rattle.std.proofs.lemmas.List.{map-append}
use Rattle.odb_service.specs.Server.{served_by}
use Rattle.odb_service.specs.Session.{Monitor}
use Rattle.odb_sessions.specs.Carried.{Carries}
use Rattle.odb_sessions.specs.Marked.{MarkedMonitor, marks_in, monitor_of}
use Rattle.odb_sessions.proofs.Carried.{begun_carried, flat, ready_part}
use Rattle.odb_sessions.proofs.applying.begin.Goals as goal

pub bring-requires-clause-has : goal.bring-requires-clause-has
bring-requires-clause-has c = (ready_part c.args.past.now [] (marks_in c.args.monitor) (flat c.args.monitors.now.items) c.requires.ready).1

pub bring-requires-clause-now : goal.bring-requires-clause-now
bring-requires-clause-now c = c.requires.ready.0

pub returns-clause-monitors : goal.returns-clause-monitors
returns-clause-monitors c = λ s.
    let xs : List MarkedMonitor = c.args.monitors.now.items in
    let y : MarkedMonitor = c.bring.new.self in
    let pushed : c.push_reserved.new.self.items ≡ xs ++ y ∷ [] = search rules in
    ap (map monitor_of) pushed ∙ map-append monitor_of xs (y ∷ []) ∙ ap (λ (m : Monitor). map monitor_of xs ++ m ∷ []) (c.bring.ensures.monitor (served_by s))

pub returns-clause-carried : goal.returns-clause-carried
returns-clause-carried c =
    let xs : List MarkedMonitor = c.args.monitors.now.items in
    let y : MarkedMonitor = c.bring.new.self in
    let pushed : c.push_reserved.new.self.items ≡ xs ++ y ∷ [] = search rules in
    subst (λ (zs : List MarkedMonitor). Carries c.args.past.now c.bring.new.past (marks_in c.args.monitor ++ flat xs) (flat zs)) (sym pushed)
    (begun_carried c.args.past.now c.bring.new.past c.args.monitor y xs c.requires.ready c.bring.ensures.moved c.bring.ensures.marks)
