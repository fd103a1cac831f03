use Rattle.std.proofs.Common.{◌≡◌, take, true}
use Rattle.std.specs.List.{list_any}
use Rattle.std.specs.Map.{keys_of}
use Rattle.odb_atoms.specs.FinMap as finite
use Rattle.odb_atoms.specs.Uuid.{Uuid, uuid_cmp}
use Rattle.std.specs.Ordering.{eq_by_cmp}
use Rattle.odb_chain.specs.OldRows.{is_reached}
use Rattle.odb_tables.specs.Database.{Table}
use Rattle.odb_chain.specs.Represented.Chain.{IsOf}
use Rattle.odb_chain.specs.Represented.MarkedVersions.{AsBefore}
use Rattle.odb_chain.proofs.old_rows.OldRows.record_all.Given as goal

abbrev pub invariant-loop-row : goal.invariant-loop-row
invariant-loop-row l = record {
  rows : (t : Table) → IsOf t l.change → (u : Uuid) → AsBefore l.newest l.live (finite.get t u) (finite.get l.initial.self.rows u) (finite.get l.self.rows u);
  reached : (u : Uuid) → list_any (eq_by_cmp uuid_cmp u) (keys_of (take l.row-index l.row-items)) ≡ true → is_reached l.newest (finite.get l.self.rows u) ≡ true;
}
