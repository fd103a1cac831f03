-- A difference that was computed leads from the old value to the new one.
use Rattle.std.specs.Prelude.{◌≡◌, false, cond, IfOk, Result, Ok, Err}
use mathlib.Core.Path.{sym, ap, ◌∙◌}
use Rattle.odb_atoms.specs.ColType.{ColType, is_single}
use Rattle.odb_atoms.specs.Difference.{apply, changed}
use Rattle.odb_atoms.specs.Value.{Value, is_map}
use Rattle.odb_atoms.proofs.Differences.{apply-difference}

pub undone : {E : Type 0} (r : Result Value E) (old new : Value) (t : ColType) → is_single t ≡ false → IfOk r (λ d. d ≡ changed old new) → IfOk r (λ d. is_map old ≡ is_map new → apply old d t ≡ new)
undone (Ok d) old new t many is = λ alike. ap (λ v. apply old v t) (is ∙ sym (ap (λ b. cond b new (changed old new)) many)) ∙ apply-difference old new t alike
undone (Err e) old new t many is = tt
