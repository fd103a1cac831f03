use Rattle.std.proofs.Common.{◌≡◌, false, not, take}
use Rattle.std.specs.List.{list_any}
use Rattle.odb_monitor.specs.Represented.Part.{is_silent}
use Rattle.odb_monitor.proofs.job.has_lines.Given as goal

abbrev pub invariant-loop-part : goal.invariant-loop-part
invariant-loop-part l = list_any (λ p. not (is_silent l.first p)) (take l.part-index l.parts) ≡ false
