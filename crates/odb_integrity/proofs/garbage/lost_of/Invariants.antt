use Rattle.std.proofs.Common.{◌≡◌, filter, take}
use Rattle.odb_integrity.specs.Touched.{is_lost}
use Rattle.odb_integrity.proofs.garbage.lost_of.Given as goal

abbrev pub invariant-loop-row : goal.invariant-loop-row
invariant-loop-row l = l.lost.items ≡ filter (is_lost l.schema l.draft.now) (take l.row-index l.rows)
