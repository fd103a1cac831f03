use Rattle.std.proofs.Common.{◌≡◌, map, take, true}
use Rattle.std.specs.List.{list_any}
use Rattle.std.specs.Ordering.{eq_by_cmp}
use Rattle.odb_atoms.specs.Represented.Atom.{uuid_of}
use Rattle.odb_atoms.specs.Uuid.{Uuid, uuid_cmp}
use Rattle.odb_tables.specs.Database.{table_at}
use Rattle.odb_tables.specs.Indexed.{AlikeAt, cells_at}
use Rattle.odb_tables.proofs.draft.Draft.are_alike.Given as goal

abbrev pub invariant-loop-uuid : goal.invariant-loop-uuid
invariant-loop-uuid l = (u : Uuid) → list_any (eq_by_cmp uuid_cmp u) (map uuid_of (take l.uuid-index l.uuids)) ≡ true → AlikeAt (cells_at l.places) (table_at l.self.old l.table) (table_at l.self.now l.table) u
