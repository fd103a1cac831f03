-- What finite maps from sessions answer.
use Rattle.std.proofs.Common.{◌≡◌, ◌==◌, ℕ, Bool, true, false, cond, not, Option, Some, None, refl, sym, ◌∙◌, ap, true≢false}
use borrow.Author.Tests.{eqb-true, eq-eqb}
use Rattle.std.specs.Ordering.{eq_by_cmp, is_eq, nat_cmp}
use Rattle.std.specs.Cmp.{nat_cmp_total, tied_itself, alike_right, eq_by_cmp_equiv}
use Rattle.std.specs.FinMap.{nat_cmp-IsAntisymmetric}
use Rattle.odb_atoms.proofs.FinMaps as maps
use Rattle.odb_atoms.specs.FinMap.{FinMap, empty, get, insert, remove}

-- keys that tie are equal
pub same_key : (q k : ℕ) → eq_by_cmp nat_cmp q k ≡ true → q ≡ k
same_key q k e = maps.same_key nat_cmp-IsAntisymmetric q k e

pub key-itself : (k : ℕ) → eq_by_cmp nat_cmp k k ≡ true
key-itself k = ap is_eq (tied_itself nat_cmp_total k)

pub session-itself : (k : ℕ) → eq_by_cmp nat_cmp k k ≡ true
session-itself = key-itself

pub turned_about : (k q : ℕ) → eq_by_cmp nat_cmp k q ≡ eq_by_cmp nat_cmp q k
turned_about k q = (eq_by_cmp_equiv nat_cmp_total).symm k q

module _ {X : Type 0} where
  pub get-empty : (q : ℕ) → get (empty {X = X} {R = nat_cmp}) q ≡ None
  get-empty q = maps.get-empty nat_cmp q

  pub same_map : (m n : FinMap nat_cmp X) → ((q : ℕ) → get m q ≡ get n q) → m ≡ n
  same_map m n is = maps.same_map nat_cmp_total nat_cmp-IsAntisymmetric m n is

  pub get-insert : (m : FinMap nat_cmp X) (k : ℕ) (v : X) (q : ℕ) → get (insert m k v) q ≡ cond (eq_by_cmp nat_cmp q k) (Some v) (get m q)
  get-insert m k v q = maps.get-insert nat_cmp_total m k v q

  turned : (b : Bool) (x y : Option X) → cond (not b) x y ≡ cond b y x
  turned true x y = refl
  turned false x y = refl

  pub get-remove : (m : FinMap nat_cmp X) (k q : ℕ) → get (remove m k) q ≡ cond (eq_by_cmp nat_cmp q k) None (get m q)
  get-remove m k q =
      maps.get-retain_keys m (λ x. not (eq_by_cmp nat_cmp k x)) q (λ x t. ap (λ r. not (is_eq r)) (sym (alike_right nat_cmp_total q x k t)))
      ∙ turned (eq_by_cmp nat_cmp k q) (get m q) None ∙ ap (λ b. cond b None (get m q)) ((eq_by_cmp_equiv nat_cmp_total).symm k q)

pub eq_turned : (a b : ℕ) → (a == b) ≡ (b == a)
eq_turned a b =
    elim (a == b) as (λ x. (a == b) ≡ x → x ≡ (b == a)) [
      | true ↦ λ is. sym (eq-eqb b a (sym (eqb-true a b is)))
      | false ↦ λ isnt. elim (b == a) as (λ y. (b == a) ≡ y → false ≡ y) [
        | true ↦ λ is. absurd (true≢false (sym (eq-eqb a b (sym (eqb-true b a is))) ∙ isnt))
        | false ↦ λ _. refl
      ] refl
    ] refl

pub apart_keys : (t s : ℕ) → (s == t) ≡ false → eq_by_cmp nat_cmp t s ≡ false
apart_keys t s e =
    elim (eq_by_cmp nat_cmp t s) as (λ b. eq_by_cmp nat_cmp t s ≡ b → b ≡ false) [
      | true ↦ λ tie. absurd (true≢false (sym (eq-eqb s t (sym (same_key t s tie))) ∙ e))
      | false ↦ λ _. refl
    ] refl

pub other : (t s : ℕ) → eq_by_cmp nat_cmp t s ≡ false → (s == t) ≡ false
other t s e = by (s == t) refl
  where
    by : (b : Bool) → (s == t) ≡ b → b ≡ false
    by true is = absurd (true≢false (sym (key-itself t) ∙ ap (λ u. eq_by_cmp nat_cmp t u) (sym (eqb-true s t is)) ∙ e))
    by false _ = refl
