use Rattle.std.proofs.Common.{◌≡◌, ◌++◌}
use Rattle.odb_front.specs.Writes.{nulls}
use Rattle.odb_front.proofs.writes.with_nulls.Given as goal

-- so many so far
abbrev pub invariant-loop-added : goal.invariant-loop-added
invariant-loop-added l = l.longer.items ≡ l.fn.text.items ++ nulls l.added
