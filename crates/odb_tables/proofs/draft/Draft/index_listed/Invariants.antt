use Rattle.std.proofs.Common.{map, take}
use Rattle.odb_atoms.specs.Represented.Atom.{uuid_of}
use Rattle.odb_tables.specs.Database.{table_at}
use Rattle.odb_tables.specs.Represented.RowIndex.{HasListed}
use Rattle.odb_tables.proofs.draft.Draft.index_listed.Given as goal

abbrev pub invariant-loop-uuid : goal.invariant-loop-uuid
invariant-loop-uuid l = HasListed (map uuid_of (take l.uuid-index l.uuids)) l.index (table_at l.self.now l.table)
