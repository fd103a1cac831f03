use Rattle.std.proofs.Common.{◌≡◌, drop}
use Rattle.odb_wire.specs.Stream.{skip_blanks}
use Rattle.odb_wire.proofs.split.skip_blanks.Given as goal

abbrev pub invariant-loop-i : goal.invariant-loop-i
invariant-loop-i l = skip_blanks l.bytes ≡ skip_blanks (drop l.i l.bytes)
