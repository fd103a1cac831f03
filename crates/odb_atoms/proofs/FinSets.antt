-- The laws of finite sets: what `contains` answers after each function, and that sets with the same elements are equal.
use Rattle.std.specs.Prelude.{◌≡◌, Bool, true, false, cond, not, ◌&&◌, ◌||◌, List, [], ◌∷◌, is_some, Option, Some, None}
use Rattle.std.specs.List.{list_any}
use mathlib.Core.Path.{refl, sym, ap, ◌∙◌}
use mathlib.Core.Bool.{xor}
use Rattle.std.specs.declared.cmp.Ordering.{Ordering}
use Rattle.std.specs.Ordering.{eq_by_cmp}
use Rattle.std.specs.Cmp.{IsTotalOrder}
use Rattle.std.specs.FinMap.{IsAntisymmetric}
use Rattle.odb_atoms.specs.FinMap as map
use Rattle.odb_atoms.proofs.FinMaps.{contains_key-keys, get-empty, get-insert, get-retain_keys, same_map}
use Rattle.odb_atoms.specs.FinSet.{FinSet, contains, difference, empty, from_list, insert, insert_all, items, retain, symmetric_difference, union}

-- ---- what an option of nothing says

some_or : (b : Bool) (x : Option (Unit {0})) → is_some (cond b (Some tt) x) ≡ (b || is_some x)
some_or true x = refl
some_or false x = refl

or_none : (b : Bool) (x : Option (Unit {0})) → is_some (cond b x None) ≡ (is_some x && b)
or_none true None = refl
or_none true (Some u) = refl
or_none false None = refl
or_none false (Some u) = refl

marked : (x : Option (Unit {0})) → x ≡ cond (is_some x) (Some tt) None
marked None = refl
marked (Some u) = refl

or_later : (a b c : Bool) → (b || (a || c)) ≡ (a || (b || c))
or_later true true c = refl
or_later true false c = refl
or_later false b c = refl

or_false : (a : Bool) → a ≡ (a || false)
or_false true = refl
or_false false = refl

one_of_two : (a b : Bool) → ((a && not b) || (b && not a)) ≡ xor a b
unfolding xor
one_of_two true true = refl
one_of_two true false = refl
one_of_two false true = refl
one_of_two false false = refl

module _ {K : Type 0} {R : K → K → Ordering} (o : IsTotalOrder R) where
  pub contains-insert : (s : FinSet R) (k q : K) → contains (insert s k) q ≡ (eq_by_cmp R q k || contains s q)
  contains-insert s k q = ap is_some (get-insert o s k tt q) ∙ some_or _ _

  contains-insert_all : (s : FinSet R) (ks : List K) (q : K) → contains (insert_all s ks) q ≡ (contains s q || list_any (eq_by_cmp R q) ks)
  contains-insert_all s [] q = or_false _
  contains-insert_all s (k ∷ ks) q = contains-insert _ k q ∙ ap (λ b. eq_by_cmp R q k || b) (contains-insert_all s ks q) ∙ or_later (contains s q) (eq_by_cmp R q k) _

  pub contains-from_list : (ks : List K) (q : K) → contains (from_list {R = R} ks) q ≡ list_any (eq_by_cmp R q) ks
  contains-from_list ks q = contains-insert_all empty ks q ∙ ap (λ x. is_some x || list_any (eq_by_cmp R q) ks) (get-empty R q)

  pub contains-union : (s t : FinSet R) (q : K) → contains (union s t) q ≡ (contains s q || contains t q)
  contains-union s t q = contains-insert_all s (items t) q ∙ ap (λ b. contains s q || b) (sym (contains_key-keys t q))

module _ {K : Type 0} {R : K → K → Ordering} (o : IsTotalOrder R) (same : IsAntisymmetric R) where
  pub contains-retain : (s : FinSet R) (p : K → Bool) (q : K) → contains (retain s p) q ≡ (contains s q && p q)
  contains-retain s p q = ap is_some (get-retain_keys s p q (λ x e. ap p (sym (same q x e)))) ∙ or_none (p q) (map.get s q)

  pub contains-difference : (s t : FinSet R) (q : K) → contains (difference s t) q ≡ (contains s q && not (contains t q))
  contains-difference s t q = contains-retain s (λ k. not (contains t k)) q

  -- the elements in exactly one of the two
  pub contains-symmetric_difference : (s t : FinSet R) (q : K) → contains (symmetric_difference s t) q ≡ xor (contains s q) (contains t q)
  contains-symmetric_difference s t q =
      contains-union o (difference s t) (difference t s) q
      ∙ (λ i. contains-difference s t q i || contains-difference t s q i)
      ∙ one_of_two (contains s q) (contains t q)

  pub same_set : (s t : FinSet R) → ((q : K) → contains s q ≡ contains t q) → s ≡ t
  same_set s t is = same_map o same s t (λ q. marked _ ∙ ap (λ b. cond b (Some tt) None) (is q) ∙ sym (marked _))
