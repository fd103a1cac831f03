use Rattle.std.proofs.Common.{ℕ, ◌<◌}
use Rattle.odb_integrity.specs.Touched.{SameAt}
use Rattle.odb_integrity.proofs.rows.touched_rows.Given as goal

abbrev pub invariant-loop-place : goal.invariant-loop-place
invariant-loop-place l = (k : ℕ) → k < l.place → SameAt k l.rows.items l.draft.old l.draft.now
