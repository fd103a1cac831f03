use Rattle.std.proofs.Common.{◌≡◌, drop}
use Rattle.odb_script.specs.Represented.Draining.{found_drained}
use Rattle.odb_script.proofs.draining.drain_all.Given as goal

abbrev pub invariant-loop-number : goal.invariant-loop-number
invariant-loop-number l = (found_drained l.number-items l.sessions (l.initial.core, l.initial.text.items) ≡ found_drained (drop l.number-index l.number-items) l.sessions (l.core, l.text.items)) × (l.core.opened ≡ l.initial.core.opened)
