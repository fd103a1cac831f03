-- Finite sets that compute: `FinMap` with nothing at each key.
--     FinSet R      of elements in the total order R.        code      its code, from that of the elements
--     empty, contains, insert, remove, retain, union, difference, len      as Rust's `BTreeSet`
--     items, from_list, from_sorted      the elements in order;  the set of any list's elements;  of those of a list that strictly rises
--     symmetric_difference      the elements in exactly one of two sets
use Rattle.std.specs.Prelude.{ℕ, Bool, not, List, [], ◌∷◌, map as map_list}
use base.Stored.{Coded, coded_unit}
use Rattle.std.specs.declared.cmp.Ordering.{Ordering}
use Rattle.odb_atoms.specs.FinMap as map

abbrev pub FinSet : {K : Type 0} → (K → K → Ordering) → Type 0
FinSet R = map.FinMap R (Unit {0})

module _ {K : Type 0} {R : K → K → Ordering} where
  abbrev pub code : Coded K → Coded (FinSet R)
  code k = map.code k coded_unit

  abbrev pub empty : FinSet R
  empty = map.empty

  abbrev pub contains : FinSet R → K → Bool
  contains s q = map.contains_key s q

  abbrev pub insert : FinSet R → K → FinSet R
  insert s k = map.insert s k tt

  abbrev pub retain : FinSet R → (K → Bool) → FinSet R
  retain s p = map.retain_keys s p

  abbrev pub remove : FinSet R → K → FinSet R
  remove s k = map.remove s k

  abbrev pub items : FinSet R → List K
  items s = map.keys s

  abbrev pub len : FinSet R → ℕ
  len s = map.len s

  abbrev pub insert_all : FinSet R → List K → FinSet R
  insert_all s [] = s
  insert_all s (k ∷ ks) = insert (insert_all s ks) k

  abbrev pub from_list : List K → FinSet R
  from_list ks = insert_all empty ks

  -- the set of a list whose elements strictly rise
  abbrev pub from_sorted : List K → FinSet R
  from_sorted ks = map.from_sorted (map_list (λ k. (k, tt)) ks)

  abbrev pub union : FinSet R → FinSet R → FinSet R
  union s t = insert_all s (items t)

  abbrev pub difference : FinSet R → FinSet R → FinSet R
  difference s t = retain s (λ k. not (contains t k))

  abbrev pub symmetric_difference : FinSet R → FinSet R → FinSet R
  symmetric_difference s t = union (difference s t) (difference t s)
