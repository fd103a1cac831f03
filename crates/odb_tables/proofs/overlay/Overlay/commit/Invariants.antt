use Rattle.std.proofs.Common.{◌≡◌, ◌++◌, map}
use Rattle.odb_atoms.specs.Represented.Atom.{uuid_of}
use Rattle.odb_tables.specs.Represented.Keyed.{shown}
use Rattle.odb_tables.specs.Represented.Overlay.{row_of}
use Rattle.odb_tables.proofs.Stamps.{stamped_entries}
use Rattle.odb_tables.proofs.TableChanges.{changes_of}
use Rattle.odb_tables.proofs.overlay.Overlay.commit.Given as goal

abbrev pub invariant-loop-row : goal.invariant-loop-row
invariant-loop-row l =
    l.rows.items ++ changes_of l.base (stamped_entries (uuid_of l.stamp.version) l.base (map (shown row_of) l.row-iterator))
    ≡ changes_of l.base (stamped_entries (uuid_of l.stamp.version) l.base (map (shown row_of) l.initial.row-iterator))
