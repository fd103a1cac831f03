use Rattle.std.proofs.Common.{◌≡◌, ◌⊎◌, true, drop}
use Rattle.std.specs.List.{list_any}
use Rattle.std.specs.Ordering.{eq_by_cmp}
use Rattle.odb_atoms.specs.Uuid.{Uuid, uuid_cmp}
use Rattle.odb_tables.specs.Represented.RowIndex.{KeepsKeys}
use Rattle.odb_tables.proofs.rows.add_all.Given as goal

abbrev pub invariant-loop-key : goal.invariant-loop-key
invariant-loop-key l = record {
  keeps : KeepsKeys l.initial.keys.keys l.keys.keys;
  rest : (u : Uuid) → list_any (eq_by_cmp uuid_cmp u) l.found ≡ true → (list_any (eq_by_cmp uuid_cmp u) l.keys.keys ≡ true) ⊎ (list_any (eq_by_cmp uuid_cmp u) (drop l.key-index l.found) ≡ true);
}
