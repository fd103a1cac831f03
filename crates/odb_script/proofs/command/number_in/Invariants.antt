use Rattle.std.proofs.Common.{◌≡◌, ◌<◌, drop}
use Rattle.odb_script.specs.Script.{number_in}
use Rattle.odb_script.proofs.command.number_in.Given as goal

abbrev pub invariant-loop-digit : goal.invariant-loop-digit
invariant-loop-digit l = (l.number < 18446744073709551616) × (number_in l.number (drop l.digit-index l.digits) ≡ number_in 0 l.digits)
