-- Mutations (RFC 7047, <mutation>): what they make of a value. [P 3.3]
use Rattle.std.specs.Prelude.{ℕ, ◌^◌, ℤ, pos, ◌+ℤ◌, ◌-ℤ◌, ◌*ℤ◌, neg_ℤ, int_div, int_rem, int_lt, int_le, Bool, cond, not, ◌&&◌, ◌==◌, List, [], ◌∷◌, length, Option, Some, None}
use Rattle.odb_atoms.specs.FinMap as map
use Rattle.odb_atoms.specs.FinSet as set
use Rattle.odb_atoms.specs.Atom.{Atom, integer, same_atom}
use Rattle.odb_atoms.specs.ColType.{ColType, admits}
use Rattle.odb_atoms.specs.Error.{Error, constraint_violation, domain_error, range_error, resources_exhausted, syntax_error}
use Rattle.odb_atoms.specs.First.{Err, Ok, Result, demand, each, ◌>>=◌, ◌>>◌}
use Rattle.odb_atoms.specs.Value.{Atoms, Pairs, Value, atoms, has_pair, map_of, set_of, within_limit}

pub data Mutator : Type 0 where
  add subtract multiply divide remainder insert delete : Mutator

pub record Mutation : Type 0 where
  pub column : ℕ
  pub mutator : Mutator
  pub value : Value

abbrev pub fits_64_bits : ℤ → Bool
fits_64_bits z = int_le (neg_ℤ (pos (2 ^ 63))) z && int_lt z (pos (2 ^ 63))

abbrev pub in_range : ℤ → Result Atom Error
in_range z = do
  demand (fits_64_bits z) range_error
  Ok (integer z)

-- Division truncates towards zero, and the remainder has the sign of the dividend.
abbrev pub calculate : Mutator → ℤ → ℤ → Result Atom Error
calculate add x y = in_range (x +ℤ y)
calculate subtract x y = in_range (x -ℤ y)
calculate multiply x y = in_range (x *ℤ y)
calculate divide x y = do
  demand (not (same_atom (integer y) (integer (pos 0)))) domain_error
  in_range (int_div x y)
calculate remainder x y = do
  demand (not (same_atom (integer y) (integer (pos 0)))) domain_error
  in_range (int_rem x y)
calculate insert x y = Err syntax_error
calculate delete x y = Err syntax_error

abbrev pub calculate_atom : Mutator → Atom → Atom → Result Atom Error
calculate_atom m (integer x) (integer y) = calculate m x y
calculate_atom m a b = Err syntax_error

-- results that have become equal are a fault
abbrev pub set_of_results : List Atom → Result Value Error
set_of_results results = do
  demand (set.len (atoms results) == length results) constraint_violation
  Ok (set_of (atoms results))

-- each element with the one operand
abbrev pub calculate_each : Mutator → Atoms → List Atom → Result Value Error
calculate_each m s (y ∷ []) = do
  results ← each (λ x. calculate_atom m x y) (set.items s)
  set_of_results results
calculate_each m s ys = Err syntax_error

abbrev pub first_of : Option Atom → Option Atom → Option Atom
first_of None y = y
first_of (Some x) y = Some x

-- the pairs whose key is absent are added
abbrev pub insert_pairs : Pairs → Pairs → Pairs
insert_pairs m n = map.combine first_of m n

-- the keys are taken out
abbrev pub delete_keys : Pairs → Atoms → Pairs
delete_keys m s = map.retain_keys m (λ k. not (set.contains s k))

-- the keys are taken out where the value matches too
abbrev pub delete_pairs : Pairs → Pairs → Pairs
delete_pairs m n = map.map_entries (λ k v. cond (has_pair n (k, v)) None (Some v)) m

-- the new value, whether the type admits it or not
abbrev pub result_of : Mutator → Value → Value → Result Value Error
result_of insert (set_of s) (set_of t) = Ok (set_of (set.union s t))
result_of insert (map_of m) (map_of n) = Ok (map_of (insert_pairs m n))
result_of delete (set_of s) (set_of t) = Ok (set_of (set.difference s t))
result_of delete (map_of m) (set_of t) = Ok (map_of (delete_keys m t))
result_of delete (map_of m) (map_of n) = Ok (map_of (delete_pairs m n))
result_of m (set_of s) (set_of t) = calculate_each m s (set.items t)
result_of m v w = Err syntax_error

-- a value within the limit that the type admits
abbrev pub admitted : ColType → Value → Result Value Error
admitted t new = do
  demand (within_limit new) resources_exhausted
  demand (admits t new) constraint_violation
  Ok new

-- what the mutation makes of a value of a column of type t
abbrev pub mutate : Mutator → Value → ColType → Value → Result Value Error
mutate m operand t old = do
  new ← result_of m old operand
  admitted t new
