use Rattle.std.proofs.Common.{◌≡◌, drop, map, Some}
use Rattle.odb_atoms.specs.Represented.Atom.{uuid_of}
use Rattle.odb_ops.specs.Execution.{replaced}
use Rattle.odb_ops.specs.Represented.Parts.{all_rewritten}
use Rattle.odb_ops.proofs.update.rewrite_all.Given as goal

abbrev pub invariant-loop-uuid : goal.invariant-loop-uuid
invariant-loop-uuid l =
    (l.draft.old ≡ l.fn.draft.old)
    × (all_rewritten (λ r. Some (replaced l.given r)) l.table (map uuid_of (drop l.uuid-index l.uuids)) l.draft ≡ all_rewritten (λ r. Some (replaced l.given r)) l.table (map uuid_of l.uuids) l.fn.draft)
