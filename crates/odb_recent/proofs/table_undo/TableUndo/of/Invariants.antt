use Rattle.std.proofs.Common.{◌≡◌, map, take}
use Rattle.odb_recent.proofs.Listing.{old_of}
use Rattle.odb_recent.proofs.table_undo.TableUndo.of.Given as goal

abbrev pub invariant-loop-row : goal.invariant-loop-row
invariant-loop-row l = l.rows.items ≡ map old_of (take l.row-index l.row-items)
