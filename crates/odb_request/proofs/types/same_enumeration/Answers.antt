use Rattle.std.proofs.Common.{◌∙◌, ap, sym}
use Rattle.odb_atoms.specs.FinSet as set
use Rattle.odb_atoms.specs.Value.{Atoms, Value, map_of, same_value, set_of}
use Rattle.odb_atoms.proofs.Equal.{same_value-itself}
use Rattle.odb_atoms.proofs.Values.{same_value-equal}
use Rattle.odb_request.proofs.types.same_enumeration.Goals as goal

atoms_of : Value → Atoms
atoms_of (set_of s) = s
atoms_of (map_of m) = set.empty

pub returns : goal.returns
unfolding atoms_of
returns c =
    let a = c.args.allowed.now in
    let b = c.args.other.now in (
      λ is. ap atoms_of (same_value-equal (set_of a) (set_of b) ((λ i. same_value (sym c.atoms.ensures i) (sym c.atoms-2.ensures i)) ∙ sym c.eq.ensures.same ∙ is)),
      λ same. c.eq.ensures.same ∙ (λ i. same_value (c.atoms.ensures i) (c.atoms-2.ensures i)) ∙ ap (λ (s : Atoms). same_value (set_of a) (set_of s)) (sym same) ∙ same_value-itself (set_of a),
    )
