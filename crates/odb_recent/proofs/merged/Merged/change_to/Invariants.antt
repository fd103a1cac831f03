use Rattle.std.proofs.Common.{◌≡◌, ◌++◌, map}
use Rattle.odb_tables.specs.Represented.Keyed.{shown}
use Rattle.odb_tables.specs.Represented.Overlay.{row_of}
use Rattle.odb_tables.proofs.Leading.{changes_of}
use Rattle.odb_recent.proofs.Changing.{became}
use Rattle.odb_recent.proofs.merged.Merged.change_to.Given as goal

abbrev pub invariant-loop-key : goal.invariant-loop-key
invariant-loop-key l = l.changes.items ++ changes_of (became l.table) (map (shown row_of) l.key-iterator) ≡ changes_of (became l.table) (map (shown row_of) l.initial.key-iterator)
