use Rattle.std.proofs.Common.{◌≡◌, ◌<◌, ℕ, true}
use Rattle.odb_schema.specs.Schema.{is_root_at}
use Rattle.odb_integrity.proofs.garbage.is_all_root.Given as goal

abbrev pub invariant-loop-place : goal.invariant-loop-place
invariant-loop-place l = (t : ℕ) → t < l.place → is_root_at l.schema t ≡ true
