-- Finite maps with numbers for keys.
use Rattle.std.proofs.Common.{◌≡◌, ℕ, Bool, true, false, cond, not, nat_eq, List, [], ◌∷◌, Option, Some, None, refl, sym, ap, ◌∙◌}
use Rattle.std.specs.Cmp.{alike_right, eq_by_cmp_equiv, nat_cmp_total, unsigned_tied}
use Rattle.std.specs.FinMap.{nat_cmp-IsAntisymmetric}
use Rattle.std.specs.FinMap.Entries.{find}
use Rattle.std.specs.Ordering.{eq_by_cmp, is_eq, nat_cmp}
use Rattle.odb_atoms.specs.FinMap as finite
use Rattle.odb_atoms.proofs.FinMaps as maps

-- whether two numbers are equal, by the order and by the test
pub same_test : (p q : ℕ) → eq_by_cmp nat_cmp p q ≡ nat_eq p q
same_test p q = unsigned_tied p q

pub same_number : (p q : ℕ) → eq_by_cmp nat_cmp p q ≡ true → p ≡ q
same_number p q e = maps.same_key nat_cmp-IsAntisymmetric p q e

module _ {X : Type 0} where
  pub same : (m n : finite.FinMap nat_cmp X) → ((q : ℕ) → finite.get m q ≡ finite.get n q) → m ≡ n
  same m n h = maps.same_map nat_cmp_total nat_cmp-IsAntisymmetric m n h

  pub get-insert : (m : finite.FinMap nat_cmp X) (k : ℕ) (v : X) (q : ℕ) → finite.get (finite.insert m k v) q ≡ cond (eq_by_cmp nat_cmp q k) (Some v) (finite.get m q)
  get-insert m k v q = maps.get-insert nat_cmp_total m k v q

  pub get-remove : (m : finite.FinMap nat_cmp X) (k q : ℕ) → finite.get (finite.remove m k) q ≡ cond (eq_by_cmp nat_cmp q k) None (finite.get m q)
  get-remove m k q =
      maps.get-retain_keys m (λ x. not (eq_by_cmp nat_cmp k x)) q (λ x t. ap (λ r. not (is_eq r)) (sym (alike_right nat_cmp_total q x k t)))
      ∙ turned (eq_by_cmp nat_cmp k q) (finite.get m q) ∙ ap (λ b. cond b None (finite.get m q)) ((eq_by_cmp_equiv nat_cmp_total).symm k q)
    where
      turned : (b : Bool) (o : Option X) → cond (not b) o None ≡ cond b None o
      turned true o = refl
      turned false o = refl

  pub get-from_entries : (es : List (ℕ × X)) (q : ℕ) → finite.get (finite.from_entries {R = nat_cmp} es) q ≡ find nat_cmp q es
  get-from_entries [] q = maps.get-empty nat_cmp q
  get-from_entries (e ∷ es) q = get-insert (finite.from_entries es) e.0 e.1 q ∙ ap (cond (eq_by_cmp nat_cmp q e.0) (Some e.1)) (get-from_entries es q)
