use Rattle.std.proofs.Common.{◌≡◌, map}
use Rattle.odb_tables.proofs.TableChanges.{changes_of, touched_entry}
use Rattle.odb_tables.proofs.overlay.Overlay.changes.Given as goal

abbrev pub invariant-loop-key : goal.invariant-loop-key
invariant-loop-key l = l.rows.items ≡ changes_of l.base (map touched_entry l.yielded)
