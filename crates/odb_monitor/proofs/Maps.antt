-- What finite maps from UUIDs answer.
use Rattle.std.proofs.Common.{◌≡◌, Bool, true, false, cond, not, Option, Some, None, refl, sym, ◌∙◌, ap, ◌&&◌, T}
use Rattle.std.specs.Prelude.{option_and_then}
use Rattle.std.specs.Ordering.{eq_by_cmp, is_eq}
use Rattle.std.specs.Cmp.{tied_itself, alike_right, eq_by_cmp_equiv}
use Rattle.odb_atoms.proofs.Atoms.{uuid_cmp_total, uuid_cmp-IsAntisymmetric}
use Rattle.odb_atoms.proofs.FinMaps as maps
use Rattle.odb_atoms.specs.FinMap.{FinMap, empty, get, insert, remove, combine, map_entries}
use Rattle.odb_atoms.specs.Uuid.{Uuid, uuid_cmp}

-- keys that tie are equal
pub same_key : (q k : Uuid) → eq_by_cmp uuid_cmp q k ≡ true → q ≡ k
same_key q k e = maps.same_key uuid_cmp-IsAntisymmetric q k e

pub key-itself : (k : Uuid) → eq_by_cmp uuid_cmp k k ≡ true
key-itself k = ap is_eq (tied_itself uuid_cmp_total k)

module _ {X : Type 0} where
  pub get-empty : (q : Uuid) → get (empty {X = X} {R = uuid_cmp}) q ≡ None
  get-empty q = maps.get-empty uuid_cmp q

  pub same_map : (m n : FinMap uuid_cmp X) → ((q : Uuid) → get m q ≡ get n q) → m ≡ n
  same_map m n is = maps.same_map uuid_cmp_total uuid_cmp-IsAntisymmetric m n is

  pub get-insert : (m : FinMap uuid_cmp X) (k : Uuid) (v : X) (q : Uuid) → get (insert m k v) q ≡ cond (eq_by_cmp uuid_cmp q k) (Some v) (get m q)
  get-insert m k v q = maps.get-insert uuid_cmp_total m k v q

  turned : (b : Bool) (x y : Option X) → cond (not b) x y ≡ cond b y x
  turned true x y = refl
  turned false x y = refl

  pub get-remove : (m : FinMap uuid_cmp X) (k q : Uuid) → get (remove m k) q ≡ cond (eq_by_cmp uuid_cmp q k) None (get m q)
  get-remove m k q =
      maps.get-retain_keys m (λ x. not (eq_by_cmp uuid_cmp k x)) q (λ x t. ap (λ r. not (is_eq r)) (sym (alike_right uuid_cmp_total q x k t)))
      ∙ turned (eq_by_cmp uuid_cmp k q) (get m q) None ∙ ap (λ b. cond b None (get m q)) ((eq_by_cmp_equiv uuid_cmp_total).symm k q)

pub get-combine : {A B C : Type 0} (f : Option A → Option B → Option C) (m : FinMap uuid_cmp A) (n : FinMap uuid_cmp B) (q : Uuid) → f None None ≡ None → get (combine f m n) q ≡ f (get m q) (get n q)
get-combine f m n q e = maps.get-combine uuid_cmp_total uuid_cmp-IsAntisymmetric f e m n q

pub get-map_entries : {A C : Type 0} (f : Uuid → A → Option C) (m : FinMap uuid_cmp A) (q : Uuid) → get (map_entries f m) q ≡ option_and_then (f q) (get m q)
get-map_entries f m q = maps.get-map_entries uuid_cmp_total uuid_cmp-IsAntisymmetric f m q

pub first_of_both : (a b : Bool) → T (a && b) → T a
first_of_both true b h = tt
first_of_both false b h = h

pub second_of_both : (a b : Bool) → T (a && b) → T b
second_of_both true b h = h
second_of_both false b h = absurd h
