use Rattle.std.proofs.Common.{◌≡◌, ◌||◌, take}
use Rattle.std.specs.BTreeSet.{contains}
use Rattle.std.specs.List.{list_any}
use Rattle.odb_atoms.specs.Represented.Atom.{uuid_of}
use Rattle.odb_integrity.specs.Represented.RowId.{row_id_cmp}
use Rattle.odb_integrity.specs.Settlement.{RowId, same_row}
use Rattle.odb_integrity.proofs.referrers.insert_all.Given as goal

abbrev pub invariant-loop-uuid : goal.invariant-loop-uuid
invariant-loop-uuid l = (x : RowId) → contains row_id_cmp l.rows x ≡ (contains row_id_cmp l.fn.rows x || list_any (λ uuid. same_row x (l.table, uuid_of uuid)) (take l.uuid-index l.uuids))
