use Rattle.std.proofs.Common.{◌≡◌, ◌++◌, map, take}
use Rattle.odb_atoms.specs.Represented.Atom.{uuid_of}
use Rattle.odb_integrity.proofs.rows.append_touched.Given as goal

abbrev pub invariant-loop-uuid : goal.invariant-loop-uuid
invariant-loop-uuid l = l.rows.items ≡ l.fn.rows.items ++ map (λ uuid. (l.table, uuid_of uuid)) (take l.uuid-index l.uuid-items)
