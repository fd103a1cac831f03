use Rattle.std.proofs.Common.{◌≡◌, drop}
use Rattle.odb_core.specs.Deadlines.{earlier, earliest}
use Rattle.odb_core.proofs.waiting_list.earliest_of.Given as goal

abbrev pub invariant-loop-each : goal.invariant-loop-each
invariant-loop-each l = earliest l.waiting ≡ earlier l.found (earliest (drop l.each-index l.waiting))
