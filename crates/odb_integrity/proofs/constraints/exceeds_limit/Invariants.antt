use Rattle.std.proofs.Common.{◌≡◌, ◌+◌, sum_by, take}
use Rattle.odb_atoms.specs.FinMap as map
use Rattle.odb_integrity.proofs.constraints.exceeds_limit.Given as goal

abbrev pub invariant-loop-place : goal.invariant-loop-place
invariant-loop-place l = l.left + sum_by map.len (take l.place l.draft.now) ≡ l.max_rows
