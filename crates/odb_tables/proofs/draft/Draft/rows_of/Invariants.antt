use Rattle.std.proofs.Common.{◌≡◌, map, take}
use Rattle.odb_atoms.specs.Represented.Atom.{uuid_of}
use Rattle.odb_tables.specs.Database.{table_at}
use Rattle.odb_tables.specs.Represented.Table.{entries_at, listed}
use Rattle.odb_tables.proofs.draft.Draft.rows_of.Given as goal

abbrev pub invariant-loop-uuid : goal.invariant-loop-uuid
invariant-loop-uuid l = map listed l.rows.items ≡ entries_at (table_at l.self.now l.table) (map uuid_of (take l.uuid-index l.uuids))
