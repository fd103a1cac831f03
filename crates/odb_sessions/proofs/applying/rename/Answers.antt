use Rattle.std.proofs.Common.{rules, ◌≡◌, List, map, ap, ◌∙◌}
use Rattle.std.specs.Arc.{arc_value}
use Rattle.odb_service.specs.Server.{served_by}
use Rattle.odb_service.specs.Session.{at_first, changed, has_id}
use Rattle.odb_sessions.specs.Marked.{MarkedMonitor, monitor_of}
use Rattle.odb_sessions.specs.Represented.Item.{filters_of}
use Rattle.odb_sessions.proofs.applying.rename.Goals as goal

pub returns-clause-monitors : goal.returns-clause-monitors
returns-clause-monitors c = λ s.
    let xs : List MarkedMonitor = c.args.monitors.now.items in
    let same : c.deref.result.now ≡ arc_value c.args.renamed.old_id = search rules in
    c.rename_first.ensures.monitors s
    ∙ ap (λ i. at_first (has_id (served_by s) i) (λ m. record m { watch = changed (served_by s) (arc_value c.args.renamed.new_id) (filters_of c.args.renamed.changes) m.watch }) (map monitor_of xs)) same
