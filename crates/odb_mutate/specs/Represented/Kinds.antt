-- Values whose atoms are of one kind each: the elements or keys of the one, the values of a map of the other.
use Rattle.std.specs.Prelude.{◌≡◌, Bool, IsTrue, List, [], false, Option, option_map}
use Rattle.odb_atoms.specs.FinSet as set
use Rattle.odb_atoms.specs.Atom.{Atom, Kind, integers}
use Rattle.odb_atoms.specs.ColType.{is_a}
use Rattle.odb_atoms.specs.Members.{value_at}
use Rattle.odb_atoms.specs.Value.{Value, each_atom, is_atom, is_map, map_of, set_of, size}

abbrev pub IsOf : Kind → Kind → Value → Type 0
IsOf k l v = IsTrue (each_atom (is_a k) (is_a l) v)

abbrev pub HasKinds : Value → Type 0
HasKinds v = (k : Kind) × (l : Kind) × IsOf k l v

-- two sets or two maps, of the same kinds
abbrev pub AreAlike : Value → Value → Type 0
AreAlike v w = (is_map v ≡ is_map w) × ((k : Kind) × (l : Kind) × IsOf k l v × IsOf k l w)

-- a set of integers
abbrev pub AreIntegers : Value → Type 0
AreIntegers v = (is_map v ≡ false) × IsOf integers integers v

-- the elements of a set, in ascending order
abbrev pub elements_in : Value → List Atom
elements_in (set_of s) = set.items s
elements_in (map_of m) = []

abbrev pub HasOneElement : Value → Type 0
HasOneElement v = (is_map v ≡ false) × (size v ≡ 1)

-- the map has the pair; a set has none
abbrev pub has_at : Value → Atom × Atom → Bool
has_at v p = is_atom (value_at v p.0) p.1

-- the pair that the map has at the key; a set has none
abbrev pub pair_at : Value → Atom → Option (Atom × Atom)
pair_at v k = option_map (λ a. (k, a)) (value_at v k)
