-- Values (RFC 7047, <value>): finite sets of atoms, and finite maps from atoms to atoms. A scalar is a set of one atom. [P 2.1, 14]
use Rattle.std.specs.Prelude.{◌≡◌, ℕ, Bool, true, false, List, [], ◌∷◌, ◌&&◌, Option, Some, None, nat_le}
use Rattle.std.specs.List.{list_all}
use Rattle.std.specs.Coded.{Coded, code_by, coded⊎}
use mathlib.Core.Logic.{◌⊎◌, inl, inr}
use mathlib.Core.Path.{refl}
use Rattle.odb_atoms.specs.FinSet as set
use Rattle.odb_atoms.specs.FinMap as map
use Rattle.odb_atoms.specs.Atom.{Atom, atom_cmp, atom_code, same_atom}

abbrev pub Atoms : Type 0
Atoms = set.FinSet atom_cmp

abbrev pub atoms : List Atom → Atoms
atoms = set.from_list

abbrev pub Pairs : Type 0
Pairs = map.FinMap atom_cmp Atom

pub data Value : Type 0 where
  set_of : Atoms → Value
  map_of : Pairs → Value

abbrev pub is_map : Value → Bool
is_map (set_of s) = false
is_map (map_of m) = true

-- the number of elements or pairs
abbrev pub size : Value → ℕ
size (set_of s) = set.len s
size (map_of m) = map.len m

-- p holds of each element or key, and q of each value of a map
abbrev pub each_atom : (Atom → Bool) → (Atom → Bool) → Value → Bool
each_atom p q (set_of s) = list_all p (set.items s)
each_atom p q (map_of m) = list_all (λ e. p e.0 && q e.1) m.entries

-- there is a value, and it is this atom
abbrev pub is_atom : Option Atom → Atom → Bool
is_atom None a = false
is_atom (Some v) a = same_atom v a

-- the map has the pair
abbrev pub has_pair : Pairs → Atom × Atom → Bool
has_pair m e = is_atom (map.get m e.0) e.1

-- each element or pair of v is in c
abbrev pub includes_all : Value → Value → Bool
includes_all (set_of c) (set_of v) = list_all (set.contains c) (set.items v)
includes_all (map_of c) (map_of v) = list_all (has_pair c) v.entries
includes_all c v = false

-- the same elements or pairs
abbrev pub same_value : Value → Value → Bool
same_value v w = includes_all v w && includes_all w v

-- one by one
abbrev pub same_values : List Value → List Value → Bool
same_values [] [] = true
same_values [] (w ∷ ws) = false
same_values (v ∷ vs) [] = false
same_values (v ∷ vs) (w ∷ ws) = same_value v w && same_values vs ws

abbrev to_sum : Value → Atoms ⊎ Pairs
to_sum (set_of s) = inl s
to_sum (map_of m) = inr m

abbrev from_sum : Atoms ⊎ Pairs → Value
from_sum (inl s) = set_of s
from_sum (inr m) = map_of m

pub from_sum-to_sum : (v : Value) → from_sum (to_sum v) ≡ v
from_sum-to_sum (set_of s) = refl
from_sum-to_sum (map_of m) = refl

abbrev pub value_code : Coded Value
value_code = code_by (Atoms ⊎ Pairs) (coded⊎ (set.code atom_code) (map.code atom_code atom_code)) to_sum from_sum from_sum-to_sum

abbrev pub max_elements : ℕ
max_elements = 65536

abbrev pub within_limit : Value → Bool
within_limit v = nat_le (size v) max_elements
