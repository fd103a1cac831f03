use Rattle.std.proofs.Common.{◌≡◌, ◌++◌, drop}
use Rattle.odb_recent.specs.Undo.{undo_from}
use Rattle.odb_recent.proofs.undo.Undo.of.Given as goal

abbrev pub invariant-loop-place : goal.invariant-loop-place
invariant-loop-place l = l.tables.items ++ undo_from l.place (drop l.place l.changes) ≡ undo_from 0 l.changes
