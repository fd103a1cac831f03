use Rattle.std.proofs.Common.{◌≡◌, drop}
use Rattle.odb_tables.proofs.PutChanges.{touched_by}
use Rattle.odb_tables.proofs.overlay.Overlay.put_change.Given as goal

abbrev pub invariant-loop-row : goal.invariant-loop-row
invariant-loop-row l = touched_by l.self (drop l.row-index l.row-items) ≡ touched_by l.initial.self l.row-items
