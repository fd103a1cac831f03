use Rattle.std.proofs.Common.{◌≡◌, sym, ap, subst, ◌∙◌}
use Rattle.odb_sessions.specs.Composed.{IsKnown, part_to}
use Rattle.odb_sessions.proofs.monitor.Watching.lacking_part.Goals as goal

pub part-requires : goal.part-requires
part-requires c = subst (IsKnown c.args.chains.now) (sym c.owed-table.ensures) c.requires

pub returns : goal.returns
returns c = c.in_ok-part.ensures ∙ ap (part_to c.args.chains.now.db) c.owed-table.ensures
