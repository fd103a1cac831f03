-- Only equal atoms tie, and the same of UUIDs.
use Rattle.std.specs.Prelude.{◌≡◌, Bool, true, false, T}
use mathlib.Core.Path.{refl, sym, ap, subst}
use Rattle.std.specs.declared.cmp.Ordering.{Ordering}
use Rattle.std.specs.declared.cmp.Ordering.TheVariants.{Equal}
use Rattle.std.specs.Ordering.{bool_cmp, is_eq}
use Rattle.std.specs.Cmp.{IsTotalOrder, on_total, nat_cmp_total}
use Rattle.std.specs.FinMap.{IsAntisymmetric, nat_cmp-IsAntisymmetric, int_cmp-IsAntisymmetric, slice_cmp-IsAntisymmetric}
use Rattle.odb_atoms.specs.Atom.{atom_cmp, boolean, integer, text, uuid}
use Rattle.odb_atoms.specs.Uuid.{uuid_cmp, same_number-same}

pub uuid_cmp_total : IsTotalOrder uuid_cmp
uuid_cmp_total = on_total (λ u. u.number) nat_cmp_total

pub uuid_cmp-IsAntisymmetric : IsAntisymmetric uuid_cmp
uuid_cmp-IsAntisymmetric u v e = same_number-same u v (nat_cmp-IsAntisymmetric u.number v.number e)

tie : {r : Ordering} → r ≡ Equal → T (is_eq r)
tie e = subst (λ r. T (is_eq r)) (sym e) tt

same_boolean : (x y : Bool) → bool_cmp x y ≡ Equal → x ≡ y
same_boolean false false e = refl
same_boolean false true e = absurd (tie e)
same_boolean true false e = absurd (tie e)
same_boolean true true e = refl

pub atom_cmp-IsAntisymmetric : IsAntisymmetric atom_cmp
atom_cmp-IsAntisymmetric (integer x) (integer y) e = ap integer (int_cmp-IsAntisymmetric x y e)
atom_cmp-IsAntisymmetric (integer x) (boolean y) e = absurd (tie e)
atom_cmp-IsAntisymmetric (integer x) (text y) e = absurd (tie e)
atom_cmp-IsAntisymmetric (integer x) (uuid y) e = absurd (tie e)
atom_cmp-IsAntisymmetric (boolean x) (integer y) e = absurd (tie e)
atom_cmp-IsAntisymmetric (boolean x) (boolean y) e = ap boolean (same_boolean x y e)
atom_cmp-IsAntisymmetric (boolean x) (text y) e = absurd (tie e)
atom_cmp-IsAntisymmetric (boolean x) (uuid y) e = absurd (tie e)
atom_cmp-IsAntisymmetric (text x) (integer y) e = absurd (tie e)
atom_cmp-IsAntisymmetric (text x) (boolean y) e = absurd (tie e)
atom_cmp-IsAntisymmetric (text x) (text y) e = ap text (slice_cmp-IsAntisymmetric nat_cmp-IsAntisymmetric x y e)
atom_cmp-IsAntisymmetric (text x) (uuid y) e = absurd (tie e)
atom_cmp-IsAntisymmetric (uuid x) (integer y) e = absurd (tie e)
atom_cmp-IsAntisymmetric (uuid x) (boolean y) e = absurd (tie e)
atom_cmp-IsAntisymmetric (uuid x) (text y) e = absurd (tie e)
atom_cmp-IsAntisymmetric (uuid x) (uuid y) e = ap uuid (uuid_cmp-IsAntisymmetric x y e)
