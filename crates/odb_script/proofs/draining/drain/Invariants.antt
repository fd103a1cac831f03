use Rattle.std.proofs.Common.{◌≡◌}
use Rattle.odb_script.specs.Represented.Draining.{drained_session}
use Rattle.odb_script.proofs.DrainOne.{owed_count}
use Rattle.odb_script.proofs.draining.drain.Given as goal

abbrev pub invariant-loop-out : goal.invariant-loop-out
invariant-loop-out l = (drained_session l.name l.session (l.initial.core, l.initial.text.items) ≡ drained_session l.name l.session (l.core, l.text.items)) × (l.core.opened ≡ l.initial.core.opened)

abbrev pub decreases-loop-out : goal.decreases-loop-out
decreases-loop-out l = owed_count l.session l.core
