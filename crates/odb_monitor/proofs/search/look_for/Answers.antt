use Rattle.std.proofs.Common.{map, option_map, subst}
use Rattle.std.specs.Arc.{arc_value}
use Rattle.odb_monitor.specs.Represented.Sought.{IsSoughtBy}
use Rattle.odb_tables.specs.Represented.Table.{listed}
use Rattle.odb_monitor.proofs.Soughts.{selected_listed}
use Rattle.odb_monitor.proofs.search.look_for.Goals as goal

pub returns : goal.returns
returns c =
    let f = c.args.request.now.filter in
    let all = c.in_ok-all.ensures in (
      subst (λ o. IsSoughtBy c.args.told f (option_map arc_value o)) c.in-Some.is c.in_ok-filter.ensures,
      selected_listed (arc_value c.in-Some.filter) (map listed c.in_ok-all.all.items) c.args.rows.now all.rows all.distinct,
    )
