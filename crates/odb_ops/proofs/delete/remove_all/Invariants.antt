use Rattle.std.proofs.Common.{◌≡◌, drop, map}
use Rattle.odb_atoms.specs.Represented.Atom.{uuid_of}
use Rattle.odb_ops.specs.Represented.Parts.{without_rows}
use Rattle.odb_ops.proofs.delete.remove_all.Given as goal

abbrev pub invariant-loop-uuid : goal.invariant-loop-uuid
invariant-loop-uuid l = (l.draft.old ≡ l.fn.draft.old) × (without_rows l.table (map uuid_of (drop l.uuid-index l.uuids)) l.draft ≡ without_rows l.table (map uuid_of l.uuids) l.fn.draft)
