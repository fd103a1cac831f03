use Rattle.std.proofs.Common.{◌≡◌, flat_map, map, take}
use Rattle.odb_atoms.specs.Represented.Atom.{uuid_of}
use Rattle.odb_cond.specs.Represented.Clause.{selector_of}
use Rattle.odb_ops.specs.Represented.Cells.{cells_at}
use Rattle.odb_ops.proofs.cells.rows_of.Given as goal
use Rattle.odb_tables.specs.Database.{table_at}

abbrev pub invariant-loop-uuid : goal.invariant-loop-uuid
invariant-loop-uuid l = l.rows.items ≡ flat_map (cells_at (map selector_of l.columns) (table_at l.draft.now l.table)) (map uuid_of (take l.uuid-index l.uuids))
