-- Lists of values that are the same, one by one.
use Rattle.std.proofs.Common.{◌≡◌, ◌&&◌, ℕ, zero, suc, Bool, true, false, not, List, [], ◌∷◌, slice_get, Option, Some, option_map, unwrap_or, refl, sym, ap, ◌∙◌}
use Rattle.std.specs.Prelude.{IsTrue}
use Rattle.std.proofs.lemmas.Option.{none-some}
use Rattle.std.proofs.Math.Bool.{and-false}
use lib.Pointwise.{pointwise}
use Rattle.std.specs.Ordering.{eq_by_cmp}
use Rattle.odb_atoms.specs.Members.{value_cmp}
use Rattle.odb_atoms.specs.Value.{Value, same_values}
use Rattle.odb_atoms.proofs.Represented.Orders.{eq_by_cmp-value_cmp}

pub same_one_by_one : (vs ws : List Value) → pointwise (eq_by_cmp value_cmp) vs ws ≡ same_values vs ws
same_one_by_one [] [] = refl
same_one_by_one [] (w ∷ ws) = refl
same_one_by_one (v ∷ vs) [] = refl
same_one_by_one (v ∷ vs) (w ∷ ws) = λ i. eq_by_cmp-value_cmp v w i && same_one_by_one vs ws i

-- two that differ at a place aren't the same
pub differ-at : (vs ws : List Value) (p : ℕ) (v w : Value) → slice_get vs p ≡ Some v → slice_get ws p ≡ Some w → eq_by_cmp value_cmp v w ≡ false → same_values vs ws ≡ false
differ-at vs ws p v w at_v at_w differ = sym (same_one_by_one vs ws) ∙ by_place vs ws p at_v at_w
  where
    by_place : (vs ws : List Value) (p : ℕ) → slice_get vs p ≡ Some v → slice_get ws p ≡ Some w → pointwise (eq_by_cmp value_cmp) vs ws ≡ false
    by_place [] ws p a b = absurd (none-some v a)
    by_place (x ∷ vs) [] p a b = absurd (none-some w b)
    by_place (x ∷ vs) (y ∷ ws) zero a b = ap (λ e. e && pointwise (eq_by_cmp value_cmp) vs ws) (differs x y a b)
      where
        differs : (x y : Value) → Some x ≡ Some v → Some y ≡ Some w → eq_by_cmp value_cmp x y ≡ false
        differs x y a b = ap (λ (o : Option Value). unwrap_or (option_map (λ x. eq_by_cmp value_cmp x y) o) false) a ∙ ap (λ (o : Option Value). unwrap_or (option_map (λ y. eq_by_cmp value_cmp v y) o) false) b ∙ differ
    by_place (x ∷ vs) (y ∷ ws) (suc p) a b = ap (λ e. eq_by_cmp value_cmp x y && e) (by_place vs ws p a b) ∙ and-false (eq_by_cmp value_cmp x y)

pub not-both : (d e same : Bool) → (IsTrue d → same ≡ false) → e ≡ same → (not d && e) ≡ same
not-both true e same none is = sym (none refl)
not-both false e same none is = is
