use Rattle.std.proofs.Common.{◌≡◌, drop}
use Rattle.odb_recent.specs.Represented.Merged.{with_olds}
use Rattle.odb_recent.proofs.merged.Merged.add_all.Given as goal

abbrev pub invariant-loop-row : goal.invariant-loop-row
invariant-loop-row l = with_olds l.self (drop l.row-index l.rows) ≡ with_olds l.fn.self l.rows
