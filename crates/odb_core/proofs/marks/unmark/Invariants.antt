use Rattle.std.proofs.Common.{◌≡◌, length}
use Rattle.odb_core.proofs.MarkedTables.{AreLeftTo}
use Rattle.odb_core.proofs.marks.unmark.Given as goal

abbrev pub invariant-loop-place : goal.invariant-loop-place
invariant-loop-place l = AreLeftTo l.place l.initial.marks.items l.marks.items l.change × (length l.marks.items ≡ length l.initial.marks.items)
