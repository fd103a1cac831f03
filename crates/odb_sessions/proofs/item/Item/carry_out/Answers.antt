use Rattle.std.proofs.Common.{List, map, sym, ap, ◌∙◌}
use Rattle.odb_service.specs.Server.{served_by}
use Rattle.odb_service.specs.Session.{leaves}
use Rattle.odb_sessions.specs.Marked.{MarkedMonitor, item_seen, monitor_of}
use Rattle.odb_sessions.specs.Represented.Item.{marked_item_of}
use Rattle.odb_sessions.specs.declared.item.Item.{Item}
use Rattle.odb_sessions.proofs.item.Item.carry_out.Goals as goal

pub returns-in-Start-clause-monitors : goal.returns-in-Start-clause-monitors
returns-in-Start-clause-monitors c = λ s.
    let xs : List MarkedMonitor = c.args.monitors.now.items in
    c.begin.ensures.monitors s ∙ ap (λ (i : Item). leaves (served_by s) c.args.past.now.db (item_seen (marked_item_of i)) (map monitor_of xs)) (sym c.in-Start.is)

pub returns-in-Shift-clause-monitors : goal.returns-in-Shift-clause-monitors
returns-in-Shift-clause-monitors c = λ s.
    let xs : List MarkedMonitor = c.args.monitors.now.items in
    c.shift_to.ensures.monitors s ∙ ap (λ (i : Item). leaves (served_by s) c.args.past.now.db (item_seen (marked_item_of i)) (map monitor_of xs)) (sym c.in-Shift.is)

pub returns-in-Renamed-clause-monitors : goal.returns-in-Renamed-clause-monitors
returns-in-Renamed-clause-monitors c = λ s.
    let xs : List MarkedMonitor = c.args.monitors.now.items in
    c.rename.ensures.monitors s ∙ ap (λ (i : Item). leaves (served_by s) c.args.past.now.db (item_seen (marked_item_of i)) (map monitor_of xs)) (sym c.in-Renamed.is)
