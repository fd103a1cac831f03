use Rattle.std.proofs.Common.{take}
use Rattle.odb_atoms.proofs.Lists.{Member}
use Rattle.odb_integrity.specs.declared.referrers.Reference.{Reference}
use Rattle.odb_integrity.proofs.Referring.{IsUnused}
use Rattle.odb_integrity.proofs.garbage.is_referred.Given as goal

abbrev pub invariant-loop-reference : goal.invariant-loop-reference
invariant-loop-reference l = (f : Reference) → Member f (take l.reference-index l.references) → IsUnused l.schema l.draft.now l.row f
