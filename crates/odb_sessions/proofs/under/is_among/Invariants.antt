use Rattle.std.proofs.Common.{◌≡◌, drop, map}
use Rattle.std.specs.Arc.{arc_value}
use Rattle.odb_request.specs.Represented.Change.{change_of}
use Rattle.odb_service.specs.Session.{filter_of}
use Rattle.odb_sessions.proofs.under.is_among.Given as goal

abbrev pub invariant-loop-change : goal.invariant-loop-change
invariant-loop-change l =
    filter_of (map (change_of l.schema) l.changes) l.name (arc_value l.old)
    ≡ filter_of (map (change_of l.schema) (drop l.change-index l.changes)) l.name (arc_value l.old)
